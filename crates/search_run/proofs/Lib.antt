pub mod Offers
pub mod Leastness
pub mod Parents
pub mod Sameness
pub mod Existence
