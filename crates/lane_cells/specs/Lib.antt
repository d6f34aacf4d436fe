pub mod Cells
pub mod Deception
pub mod Marks
