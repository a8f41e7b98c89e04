pub mod Calls
pub mod File
pub mod Plan
pub mod Slots
pub mod State
pub mod Store
