pub mod Steps
pub mod Kept
pub mod Views
pub mod Network
pub mod Calls
