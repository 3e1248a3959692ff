pub mod Item
pub mod Script
