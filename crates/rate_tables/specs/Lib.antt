pub mod Tables
pub mod Adjusted
