pub mod GivingLemmas
pub mod GivenOnWire
