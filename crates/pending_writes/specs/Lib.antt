pub mod Extents
pub mod Writes
pub mod Taken
pub mod Reads
pub mod Comparisons
pub mod Moves
pub mod Bytes
pub mod Weights
