pub mod Workings
pub mod Multipliers
