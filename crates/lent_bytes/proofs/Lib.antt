pub mod Lists
pub mod Buffer
pub mod Same
pub mod Joined
pub mod Numbers
