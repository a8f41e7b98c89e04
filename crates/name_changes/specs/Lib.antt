pub mod Changes
pub mod Asks
pub mod Answers
pub mod Answered
pub mod ChangeLaws
pub mod Stores
