pub mod Ending
pub mod Plans
pub mod Service
pub mod Wire
