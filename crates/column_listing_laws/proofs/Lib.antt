pub mod Depth
pub mod Longest
pub mod LineLaws
