pub mod Free
pub mod Tries
pub mod Drawing
pub mod Ordered
pub mod Laws
pub mod Worked
