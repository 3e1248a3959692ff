pub mod Duplex
pub mod Answers
