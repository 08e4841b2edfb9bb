pub mod Estimate
pub mod Search
pub mod Tested
pub mod Instances
pub mod Laws
pub mod Rows
