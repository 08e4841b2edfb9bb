pub mod Values
pub mod Split
pub mod Lines
pub mod Laws
pub mod Kept
pub mod Few
pub mod Standing
