pub mod Rows
pub mod Groups
pub mod Replies
