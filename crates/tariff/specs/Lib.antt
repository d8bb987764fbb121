pub mod Ranges
pub mod Threshold
pub mod ConductTests
pub mod Comparisons
pub mod SanctionRules
pub mod Ladder
pub mod DefaultBidRules
pub mod StageSums
