pub mod ExportNames
pub mod MountLaws
pub mod MountLists
pub mod NameWalks
pub mod PathLaws
mod Rows
