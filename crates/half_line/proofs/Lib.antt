-- Once a command is answered, the stations are in step.
pub mod Certified
pub mod Complete
pub mod Once
pub mod Steps
-- What each end sent, as the report tells it.
pub mod Wire
-- The numbers and bodies of the transmissions of a run.
pub mod Transmissions
