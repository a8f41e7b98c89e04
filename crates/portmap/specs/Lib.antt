pub mod Ports
pub mod Requests
pub mod Answers
pub mod Links
pub mod Sessions
