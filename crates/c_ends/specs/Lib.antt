pub mod Code
pub mod Held
pub mod Links
pub mod Parts
pub mod Told
pub mod Values
