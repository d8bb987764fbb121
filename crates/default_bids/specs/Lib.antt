pub mod Mitigation
pub mod StageFigures
