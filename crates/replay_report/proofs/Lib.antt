pub mod Pairs
pub mod Writing
