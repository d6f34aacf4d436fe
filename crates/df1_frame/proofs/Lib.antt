pub mod LineLemmas
pub mod SpellingLemmas
pub mod GatheredLemmas
pub mod GrammarLemmas
pub mod FrameLemmas
pub mod RunLemmas
pub mod DecoderRuns
pub mod Sendings
