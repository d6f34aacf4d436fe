pub mod Shelved
pub mod Shelves
