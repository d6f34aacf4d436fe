pub mod End
pub mod Joined
pub mod Emission
pub mod Reached
pub mod Fates
pub mod Arrived
pub mod Serving
pub mod Moves
