pub mod Example
pub mod Moved
pub mod Rehearsal
