pub mod First
pub mod Runs
pub mod Row
pub mod Finding
pub mod Span
pub mod Kept
pub mod Follow
pub mod Inward
