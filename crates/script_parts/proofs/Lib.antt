pub mod MoreFiles
pub mod PlanSettings
