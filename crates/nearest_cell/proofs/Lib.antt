pub mod Order
pub mod Ringed
pub mod Lawful
pub mod Listed
