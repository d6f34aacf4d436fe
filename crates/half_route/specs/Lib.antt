pub mod Issues
pub mod Once
pub mod Run
