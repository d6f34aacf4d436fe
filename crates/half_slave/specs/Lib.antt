pub mod Slave
pub mod Arrived
pub mod Emission
pub mod Fates
pub mod Wait
pub mod Received
pub mod Reached
pub mod Past
