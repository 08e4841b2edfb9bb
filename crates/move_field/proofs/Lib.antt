pub mod Priced
pub mod Written
