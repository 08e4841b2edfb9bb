pub mod Asked
pub mod Answers
pub mod Joined
pub mod Served
pub mod Writing
