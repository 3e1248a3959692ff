pub mod Counts
pub mod Named
