pub mod Added
pub mod Columns
pub mod SumLaws
pub mod ColumnVerdicts
pub mod DnaClaims
