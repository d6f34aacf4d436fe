pub mod CheckLemmas
pub mod LookUps
