pub mod Jumps
pub mod Answer
pub mod Laws
pub mod Serving
pub mod Room
pub mod Counting
pub mod Jumping
pub mod OneState
