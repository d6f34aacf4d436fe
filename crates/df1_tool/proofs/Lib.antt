pub mod Asked
pub mod CaptureRuns
pub mod Drills
pub mod ScriptRuns
pub mod Services
pub mod Statuses
pub mod VectorRuns
