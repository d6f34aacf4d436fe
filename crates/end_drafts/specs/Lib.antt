pub mod Drafts
pub mod Flaws
pub mod Places
pub mod Stages
