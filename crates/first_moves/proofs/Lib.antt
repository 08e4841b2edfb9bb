pub mod Picking
pub mod Cutting
pub mod Rows
pub mod Following
pub mod Leading
pub mod Led
pub mod Inward
pub mod Rowed
