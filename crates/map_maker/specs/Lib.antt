pub mod Words
pub mod Making
pub mod Drill
pub mod Drawing
pub mod Worked
