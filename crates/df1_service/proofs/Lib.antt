pub mod OutcomeLines
pub mod Wires
