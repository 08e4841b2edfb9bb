pub mod Commands
pub mod Laws
pub mod Cuts
pub mod Feeding
