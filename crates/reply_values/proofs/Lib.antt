pub mod Known
pub mod FloatWords
