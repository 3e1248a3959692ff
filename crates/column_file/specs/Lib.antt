pub mod Format
pub mod Reading
pub mod Places
pub mod Encoding
