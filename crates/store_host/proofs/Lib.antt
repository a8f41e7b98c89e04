mod Hyphens
mod Listing
mod ObjectNames
