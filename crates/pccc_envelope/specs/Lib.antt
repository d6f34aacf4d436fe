pub mod Envelope
pub mod Accepted
