pub mod Closing
pub mod Contexts
pub mod Ticks
pub mod World
