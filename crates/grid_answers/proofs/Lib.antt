pub mod Cells
pub mod Waved
pub mod Printing
pub mod Encoding
