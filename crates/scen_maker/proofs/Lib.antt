pub mod Searching
pub mod Listed
pub mod Posed
