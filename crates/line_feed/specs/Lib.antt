pub mod Lines
pub mod Fed
pub mod Worked
