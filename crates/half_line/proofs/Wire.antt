-- At each point of a run: what the master gave, and that its messages are its own.
pub mod MasterEnd
-- At each point of a run: what a station gave, and that its messages are its own.
pub mod StationEnd
-- Over a whole run: what each end sent is DF1.
pub mod WholeRun
-- Of a run that deceives no end: messages have keys of their own.
pub mod OwnKeys
-- What was given at the end of a run, as the report tells it.
pub mod Told
-- Before the first event nothing is under way.
pub mod FirstState
