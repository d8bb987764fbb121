pub mod WorkingLaws
pub mod FailedLaws
