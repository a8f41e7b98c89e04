pub mod FoundHandles
pub mod MayRead
pub mod DirectoryEntries
pub mod Fillings
pub mod ListingLaws
mod QueryRows
