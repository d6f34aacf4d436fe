pub mod TextLemmas
pub mod SentLemmas
pub mod WholeItems
pub mod WireLemmas
pub mod SlaveLemmas
pub mod SlaveRuns
pub mod MasterLemmas
pub mod MasterRuns
