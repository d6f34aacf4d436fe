pub mod Playing
pub mod Parts
