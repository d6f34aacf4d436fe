pub mod Forms
pub mod FirstWords
