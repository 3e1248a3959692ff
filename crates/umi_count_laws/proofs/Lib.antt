pub mod Rounding
pub mod Places
pub mod KahanStep
pub mod Sums
pub mod Named
