pub mod Made
pub mod Turns
pub mod Laws
