pub mod Numbers
pub mod LnRanges
pub mod Signs
pub mod Domain
