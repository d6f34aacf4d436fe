pub mod Drafts
pub mod Left
