pub mod FirstTables
pub mod IssuedPayloads
