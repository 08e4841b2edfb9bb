pub mod Order
pub mod Encoding
pub mod Faults
pub mod Written
pub mod Reading
pub mod Worked
