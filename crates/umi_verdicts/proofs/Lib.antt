pub mod Likeness
pub mod Refusals
