pub mod Search
pub mod Unanimous
