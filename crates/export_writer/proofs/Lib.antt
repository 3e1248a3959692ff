pub mod Coded
pub mod Back
pub mod NumberLaws
