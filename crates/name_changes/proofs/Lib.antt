pub mod ChangeLaws
pub mod ToldChanges
pub mod StoredChanges
