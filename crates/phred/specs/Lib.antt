pub mod Phred
pub mod Corners
pub mod Start
pub mod Laws
pub mod FourLanes
