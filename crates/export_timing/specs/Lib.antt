pub mod Amounts
pub mod Times
pub mod Columns
