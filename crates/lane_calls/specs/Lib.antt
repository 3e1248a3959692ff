pub mod Calls
pub mod Multibase
pub mod Full
pub mod Lane
