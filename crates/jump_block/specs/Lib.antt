pub mod Trail
pub mod Word
pub mod Eight
pub mod Seek
pub mod Scan
pub mod Source
pub mod Near
