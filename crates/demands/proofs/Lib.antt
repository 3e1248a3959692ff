pub mod Refused
pub mod Demand1
pub mod Demand3
pub mod Starred
