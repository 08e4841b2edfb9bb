pub mod Joining
pub mod Spreading
pub mod Reaching
pub mod Labelling
pub mod Layering
