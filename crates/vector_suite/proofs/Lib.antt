pub mod Cases
pub mod Frames
pub mod Places
