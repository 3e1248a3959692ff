pub mod Fraction
pub mod Claims
