pub mod Calls
pub mod Views
pub mod Replies
pub mod Spellings
pub mod Numbers
