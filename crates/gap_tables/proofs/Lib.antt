pub mod Middle
pub mod Promised
pub mod OfARate
