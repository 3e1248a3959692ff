pub mod Drafts
pub mod Accepted
pub mod LedTo
pub mod Rewriting
pub mod Laws
pub mod ConditionLaws
pub mod Examples
