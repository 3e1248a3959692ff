pub mod PartitionPoint
pub mod Sole
