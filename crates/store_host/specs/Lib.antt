pub mod ObjectNames
pub mod Listing
pub mod Faults
