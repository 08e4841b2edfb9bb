pub mod Opening
pub mod Readings
