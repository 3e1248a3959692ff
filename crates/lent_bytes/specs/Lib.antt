pub mod Buffer
pub mod Bytes
