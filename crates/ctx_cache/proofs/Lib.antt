pub mod CacheKeys
mod Rows
pub mod UseOrder
