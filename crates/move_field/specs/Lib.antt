pub mod Field
pub mod Priced
pub mod Worked
