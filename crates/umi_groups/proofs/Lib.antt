pub mod Mapped
pub mod Room
pub mod Groups
