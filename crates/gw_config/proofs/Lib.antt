pub mod Ranges
mod Rows
