pub mod Orders
pub mod Outcomes
pub mod Telling
