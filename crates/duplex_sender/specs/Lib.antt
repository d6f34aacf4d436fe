pub mod Sender
pub mod View
