pub mod Readers
pub mod Strings
pub mod Placed
