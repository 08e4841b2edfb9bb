pub mod Potentials
pub mod Listing
pub mod Spelled
pub mod Lengths
pub mod Making
