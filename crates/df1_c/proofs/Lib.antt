pub mod Arriving
pub mod Faults
mod Heap
pub mod Making
mod Pointed
mod RunsArrived
mod Spelled
