pub mod DuplexLaws
pub mod DuplexExample
pub mod Laws
pub mod Examples
