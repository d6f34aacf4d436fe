pub mod Answer
pub mod Commands
pub mod HostLaws
pub mod Initiator
pub mod Node
pub mod Queue
pub mod Together
