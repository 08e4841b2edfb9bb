mod Growing
pub mod Storing
pub mod Moves
mod Offering
mod Right
mod Concluding
pub mod Existing
mod Unique
pub mod Answering
