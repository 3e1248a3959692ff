pub mod Walk
pub mod Set
pub mod Codes
