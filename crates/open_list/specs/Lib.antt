pub mod Order
pub mod OpenList
pub mod Entry
pub mod Heaps
