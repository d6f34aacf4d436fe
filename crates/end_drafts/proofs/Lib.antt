pub mod EndStanding
pub mod Numbered
pub mod Ranges
pub mod Seen
