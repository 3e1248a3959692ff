pub mod Result
pub mod Refusals
