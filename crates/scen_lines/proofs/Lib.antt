pub mod Digits
pub mod Fields
pub mod Read
pub mod Names
pub mod NamesRead
pub mod Costs
pub mod Short
