pub mod Playing
pub mod StormPlaying
