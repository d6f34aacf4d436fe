pub mod FileLemmas
pub mod InRange
pub mod LinksInRange
pub mod StationLemmas
