pub mod Codes
pub mod Asked
pub mod Numbered
pub mod Sent
