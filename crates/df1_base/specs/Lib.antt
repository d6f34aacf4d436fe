pub mod Feed
pub mod Host
pub mod HostAnswers
pub mod InMemory
pub mod Outside
pub mod PortLaws
pub mod Signals
