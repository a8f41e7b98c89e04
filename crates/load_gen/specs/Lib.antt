pub mod Numbers
pub mod Shuffles
pub mod Lines
pub mod Load
pub mod Laws
