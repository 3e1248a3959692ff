pub mod Replies
pub mod Strands
pub mod Pairs
