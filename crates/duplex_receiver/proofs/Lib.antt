pub mod Keeping
pub mod Answered
pub mod Runs
pub mod Accepting
