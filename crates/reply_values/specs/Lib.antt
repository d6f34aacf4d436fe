pub mod Reply
pub mod Texts
pub mod Typed
pub mod Values
