pub mod Joined
pub mod Both
pub mod Kept
pub mod Flood
pub mod Flooding
