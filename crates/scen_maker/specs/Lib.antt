pub mod Settling
pub mod Lengths
pub mod Listing
pub mod Problems
