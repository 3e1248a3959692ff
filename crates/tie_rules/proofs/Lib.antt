pub mod Lanes
pub mod Clear
pub mod Leading
pub mod Named
pub mod Stands
