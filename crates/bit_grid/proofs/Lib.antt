pub mod Words
mod Lanes
mod Packing
pub mod Showing
mod Turning
