pub mod MessageFaults
pub mod Messages
pub mod Targets
