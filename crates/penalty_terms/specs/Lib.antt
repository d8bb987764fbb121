pub mod PenaltyWorking
pub mod ByCalls
pub mod StageTerms
