pub mod HalfPlayable
pub mod Playable
pub mod Plans
pub mod RoutePlayable
