pub mod Counts
pub mod Family
