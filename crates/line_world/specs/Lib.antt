pub mod Complete
pub mod Once
pub mod Recovery
pub mod Rested
pub mod Runs
pub mod Wire
