pub mod Arrived
pub mod Decoders
pub mod Hearings
pub mod Sides
pub mod Spelled
