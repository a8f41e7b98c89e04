pub mod Calls
pub mod Entries
pub mod Keys
pub mod Laws
