pub mod Fronts
pub mod Values
pub mod Addresses
pub mod Parameters
