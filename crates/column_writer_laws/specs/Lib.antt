pub mod Steps
pub mod Laws
pub mod Conditions
pub mod Examples
