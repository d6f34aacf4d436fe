pub mod Receiver
pub mod Hearing
