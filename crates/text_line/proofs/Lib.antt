pub mod Cut
pub mod Parts
pub mod Digits
pub mod Placing
pub mod LongDigits
pub mod Reading
pub mod Written
pub mod Begun
