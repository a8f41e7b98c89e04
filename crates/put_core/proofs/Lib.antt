pub mod ChunkLists
pub mod Choices
pub mod Windows
pub mod Kept
pub mod Calls
pub mod Network
pub mod Sources
pub mod Rounds
mod Rows
