pub mod Keys
pub mod Settings
pub mod Ranges
pub mod Refusals
pub mod Faults
pub mod Seen
