pub mod Encoding
pub mod Conditions
pub mod Examples
