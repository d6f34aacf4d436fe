pub mod Changes
pub mod Known
pub mod Orders
pub mod ReadingCodes
pub mod Replies
pub mod SetLists
pub mod Spelled
