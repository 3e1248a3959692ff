pub mod Readers
pub mod StringSet
pub mod Places
