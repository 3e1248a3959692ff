pub mod Likeness
pub mod FamilyVerdicts
