pub mod Beside
pub mod Reach
