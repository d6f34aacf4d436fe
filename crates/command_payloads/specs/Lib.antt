pub mod Faults
pub mod Orders
pub mod Payloads
pub mod Words
