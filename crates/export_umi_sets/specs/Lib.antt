pub mod Reading
pub mod Answers
pub mod Codes
