pub mod Runs
pub mod Grounds
pub mod Picture
pub mod Strokes
pub mod Laws
pub mod Worked
