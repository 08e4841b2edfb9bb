pub mod Map
pub mod Spelling
pub mod Faults
pub mod Progress
pub mod Writing
pub mod Worked
