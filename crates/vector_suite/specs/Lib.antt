pub mod Forty
pub mod Telling
pub mod Vectors
