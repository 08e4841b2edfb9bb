pub mod Nearest
pub mod Laws
pub mod Rings
