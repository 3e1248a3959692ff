pub mod ColumnLoops
pub mod CountLoops
pub mod ByCounts
