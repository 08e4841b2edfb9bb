pub mod Settings
pub mod Kinds
pub mod Request
pub mod Calls
pub mod Rule
pub mod Steps
pub mod Worked
