pub mod Drafts
pub mod Forms
pub mod Read
pub mod Stations
