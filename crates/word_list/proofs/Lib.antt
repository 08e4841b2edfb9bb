pub mod Table
pub mod Rules
pub mod Completed
pub mod Settled
pub mod Fitted
pub mod Calls
