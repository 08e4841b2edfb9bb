pub mod Rank
pub mod Begin
pub mod Stored
pub mod Kept
pub mod Front
pub mod Shape
pub mod Wave
