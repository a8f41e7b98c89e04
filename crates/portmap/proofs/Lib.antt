pub mod Answers
pub mod Links
pub mod MessageReplies
pub mod Sessions
mod Rows
