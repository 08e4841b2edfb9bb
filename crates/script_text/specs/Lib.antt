pub mod Spelling
pub mod Lines
pub mod Faults
pub mod Feeding
pub mod Fed
pub mod Worked
