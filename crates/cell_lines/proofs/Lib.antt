pub mod Writing
pub mod Parted
pub mod Spaced
