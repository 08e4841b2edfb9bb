pub mod Corners
pub mod Filling
pub mod Running
pub mod Joined
pub mod Checks
