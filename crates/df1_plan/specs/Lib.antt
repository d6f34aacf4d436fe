pub mod Keys
pub mod Values
pub mod Settings
pub mod Files
pub mod Issues
pub mod Plans
pub mod Parts
