pub mod Stages
pub mod Writing
