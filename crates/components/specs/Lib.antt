pub mod Kept
pub mod Classes
pub mod Links
pub mod Meeting
pub mod Stored
pub mod Around
pub mod Walls
pub mod Labelling
