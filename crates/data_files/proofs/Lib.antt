pub mod Files
pub mod Held
pub mod Made
pub mod NoFault
pub mod Placed
pub mod WordLists
pub mod Words
