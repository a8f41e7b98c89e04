pub mod Records
pub mod Assembly
pub mod Streams
pub mod Places
pub mod Presents
