pub mod Written
pub mod Made
pub mod Certified
