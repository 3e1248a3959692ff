pub mod RowLoops
pub mod ColumnLoops
