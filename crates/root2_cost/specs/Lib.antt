pub mod Laws
pub mod Length
pub mod Order
pub mod Rank
pub mod Signed
pub mod Sums
pub mod Verdict
