pub mod Rehearsals
pub mod Routes
pub mod Texts
pub mod ToldTransfers
pub mod Whole
