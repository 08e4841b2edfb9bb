pub mod Stopping
pub mod Pieces
pub mod Looping
pub mod Heading
