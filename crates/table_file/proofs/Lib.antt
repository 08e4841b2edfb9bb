pub mod Numbering
pub mod Bytes
pub mod Finding
pub mod Putting
pub mod Laws
pub mod Comparing
pub mod Differing
