pub mod Leading
pub mod Drawn
pub mod Stable
pub mod Insertion
