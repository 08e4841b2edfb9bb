pub mod Fields
pub mod Progress
pub mod Spelling
pub mod Fit
pub mod Judgements
