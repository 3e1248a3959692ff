pub mod Found
pub mod Groups
