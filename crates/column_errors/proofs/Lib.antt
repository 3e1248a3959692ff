pub mod Texts
pub mod Files
