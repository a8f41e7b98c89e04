pub mod CallEntries
pub mod CallLaws
mod Rows
