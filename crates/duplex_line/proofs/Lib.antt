pub mod Certified
pub mod Complete
pub mod Once
pub mod Steps
pub mod Told
pub mod Wire
