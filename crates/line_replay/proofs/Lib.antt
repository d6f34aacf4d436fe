pub mod Fed
pub mod OfRun
pub mod Runs
