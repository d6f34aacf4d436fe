pub mod Cuts
pub mod Reading
pub mod Standing
mod Profiles
pub mod LongTexts
pub mod Counts
pub mod Unfinished
pub mod Fed
pub mod Setup
pub mod Shown
pub mod Runs
mod Steps
mod StepLines
mod GivenWords
mod GivenCommands
mod GivenDeliveries
