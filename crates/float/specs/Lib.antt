pub mod Ops
pub mod Methods
pub mod Claims
