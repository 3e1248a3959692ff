pub mod Folds
pub mod Start
pub mod Infinity
pub mod Corners
pub mod ShortWay
pub mod Levels
pub mod FourLanes
