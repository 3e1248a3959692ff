pub mod Fma
pub mod Exp
pub mod ExpMinusOne
pub mod LnOnePlus
pub mod Ln
