pub mod Parts
pub mod Procedures
pub mod Places
pub mod Answers
pub mod Loops
pub mod Heads
pub mod Bounds
pub mod RowLengths
