pub mod Besides
pub mod Forcing
pub mod Reaching
pub mod Scanning
pub mod Straight
pub mod Diagonal
