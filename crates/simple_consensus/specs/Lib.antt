pub mod Strings
pub mod Verdicts
pub mod Consensus
pub mod Answers
pub mod Places
