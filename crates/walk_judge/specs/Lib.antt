pub mod Claims
pub mod Walks
pub mod Judgement
pub mod Worked
