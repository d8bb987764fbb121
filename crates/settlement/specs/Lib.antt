pub mod Row
pub mod Settled
