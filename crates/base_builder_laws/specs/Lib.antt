pub mod Counted
pub mod GoodCalls
pub mod Agrees
pub mod AddConditions
pub mod Laws
pub mod Corners
