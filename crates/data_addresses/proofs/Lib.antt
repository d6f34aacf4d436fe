pub mod Digits
pub mod Known
pub mod Spelled
pub mod Texts
