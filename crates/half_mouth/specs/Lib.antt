pub mod Giving
pub mod View
pub mod Transmissions
