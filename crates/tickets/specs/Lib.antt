pub mod Desk
pub mod Entries
pub mod Laws
pub mod Answers
