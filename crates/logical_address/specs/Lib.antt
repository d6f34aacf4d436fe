pub mod Spelling
pub mod Shortest
pub mod Reading
pub mod Parameter
