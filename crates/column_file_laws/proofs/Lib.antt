pub mod Both
pub mod Parts
pub mod ConditionLaws
pub mod Examples
