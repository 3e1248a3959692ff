pub mod ExpTable
pub mod LnTable
