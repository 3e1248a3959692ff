pub mod Table
pub mod Sums
pub mod Laws
