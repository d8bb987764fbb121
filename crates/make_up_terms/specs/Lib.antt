pub mod MakeUpWorking
pub mod ByTerms
pub mod StageMakeUp
