pub mod Line
pub mod Naming
pub mod Laws
