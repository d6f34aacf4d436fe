pub mod Directory
pub mod Effect
pub mod Place
pub mod Tables
pub mod WordBytes
pub mod Words
