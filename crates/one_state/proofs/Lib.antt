pub mod Sums
pub mod Estimates
pub mod Settling
pub mod Right
pub mod Parents
pub mod Listing
pub mod Deciding
pub mod Stopping
