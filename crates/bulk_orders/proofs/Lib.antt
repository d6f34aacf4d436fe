pub mod Faults
pub mod Ranges
