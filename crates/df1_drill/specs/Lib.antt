pub mod Drill
pub mod Storm
pub mod Tally
pub mod Telling
