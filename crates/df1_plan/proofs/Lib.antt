pub mod Planned
pub mod Told
pub mod GivenSettings
pub mod Names
pub mod Entries
pub mod Causes
pub mod Valid
pub mod Joined
