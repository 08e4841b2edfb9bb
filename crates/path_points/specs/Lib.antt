pub mod Corners
pub mod Checked
pub mod Least
