pub mod Dna
pub mod Verdicts
pub mod Calls
pub mod Sums
pub mod DnaClaims
