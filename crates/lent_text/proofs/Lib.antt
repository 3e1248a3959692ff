pub mod Put
pub mod Printed
pub mod Decimal
pub mod Fours
