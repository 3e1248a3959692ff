pub mod Start
pub mod Tables
pub mod Callers
pub mod Columns
