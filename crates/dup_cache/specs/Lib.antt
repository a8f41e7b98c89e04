pub mod CallList
pub mod Entries
pub mod Laws
pub mod Lends
