pub mod Run
pub mod Chain
pub mod Laws
pub mod Ended
pub mod Made
