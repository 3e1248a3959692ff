pub mod Lengths
pub mod Numbers
pub mod Parts
pub mod Written
