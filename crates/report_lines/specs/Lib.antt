pub mod NodeLines
pub mod SentBytes
pub mod Whose
pub mod Words
