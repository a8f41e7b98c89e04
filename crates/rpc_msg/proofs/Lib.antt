pub mod Words
pub mod Faults
pub mod Chains
pub mod Spelled
pub mod CallRows
pub mod Behind
