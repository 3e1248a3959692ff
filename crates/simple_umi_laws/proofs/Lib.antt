pub mod DuplexLaws
pub mod DuplexExample
pub mod ConditionLaws
pub mod Resets
pub mod AnswerLaws
pub mod DefaultEntry
pub mod Examples
