pub mod Fronts
pub mod Numbers
pub mod Opaques
pub mod Taken
pub mod Texts
pub mod Exact
pub mod Lists
