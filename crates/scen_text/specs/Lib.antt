pub mod Lengths
pub mod Words
pub mod Spelling
pub mod Faults
pub mod Progress
pub mod Names
pub mod Worked
