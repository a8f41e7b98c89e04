pub mod Script
pub mod LineBuffer
pub mod Assembly
pub mod Fields
