pub mod Differ
pub mod Counted
pub mod Mending
pub mod Repaired
pub mod Abreast
pub mod Lines
