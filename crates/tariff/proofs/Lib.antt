pub mod ComparisonLaws
pub mod PercentLaws
pub mod RuleLaws
pub mod LadderLaws
