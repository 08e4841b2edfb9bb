pub mod Bits
pub mod Pack
pub mod Turn
