pub mod Fields
pub mod Meaning
pub mod Order
pub mod Reading
pub mod Spelling
pub mod Tests
