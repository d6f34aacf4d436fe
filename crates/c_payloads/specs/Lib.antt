pub mod Parts
pub mod Faults
pub mod Commands
pub mod Payloads
pub mod Addresses
pub mod Replies
