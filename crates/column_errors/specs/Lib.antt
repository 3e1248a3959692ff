pub mod ErrorSums
pub mod Tables
