pub mod Texts
pub mod Longest
pub mod Passing
pub mod Rows
pub mod Covering
pub mod Drawn
