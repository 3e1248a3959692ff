pub mod Cases
pub mod Arms
pub mod Claims
pub mod Listed
pub mod Pairs
pub mod Sums
pub mod Tests
