pub mod FaultLines
pub mod Kinds
pub mod Files
pub mod Layered
pub mod MapFiles
pub mod Reading
