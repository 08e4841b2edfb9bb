pub mod Causes
pub mod Known
pub mod Whole
pub mod Stop
pub mod Memory
pub mod Named
pub mod Calls
