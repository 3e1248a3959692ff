pub mod Lanes
pub mod UniqueMax
pub mod Scan
pub mod Ties
pub mod Lead
