pub mod Captures
pub mod Counted
pub mod Dissected
