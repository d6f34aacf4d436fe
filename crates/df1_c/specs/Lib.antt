pub mod Arrived
pub mod Decoders
pub mod Held
pub mod Owned
pub mod Payloads
pub mod Rows
pub mod Spelled
