pub mod Functions
pub mod Hex
pub mod Answers
pub mod Fields
pub mod Builders
pub mod Listings
pub mod Lines
pub mod Counts
