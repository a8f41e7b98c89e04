pub mod ExportPaths
pub mod Mounts
pub mod Laws
