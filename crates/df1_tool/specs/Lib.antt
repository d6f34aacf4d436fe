pub mod Captures
pub mod Drilling
pub mod Forms
pub mod Notes
pub mod Replays
pub mod Scripts
pub mod Served
pub mod Vectors
