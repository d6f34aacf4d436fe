pub mod Replies
pub mod LastAccepted
