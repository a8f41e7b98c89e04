pub mod Items
pub mod Reading
pub mod Rows
pub mod Forms
pub mod Exact
pub mod Lists
