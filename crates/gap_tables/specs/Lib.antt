pub mod Thresholds
pub mod Gaps
