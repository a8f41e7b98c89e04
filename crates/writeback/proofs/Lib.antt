pub mod Notes
pub mod Putting
pub mod Comparing
pub mod Fetching
pub mod Syncing
