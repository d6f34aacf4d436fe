pub mod HostLaws
pub mod Router
