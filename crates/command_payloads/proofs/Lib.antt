pub mod Done
pub mod Faults
pub mod OfPlc
pub mod OfSlc
pub mod OneBit
pub mod Read
