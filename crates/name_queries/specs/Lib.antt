pub mod Found
pub mod System
pub mod Listings
pub mod Queries
pub mod Outcomes
pub mod ListingLaws
