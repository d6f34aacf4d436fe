pub mod Outcome
pub mod Replayed
