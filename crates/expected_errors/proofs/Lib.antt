pub mod Powers
pub mod Rule
pub mod SumLaws
