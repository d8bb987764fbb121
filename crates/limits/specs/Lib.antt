pub mod Numbers
pub mod Refusal
pub mod StageLookup
pub mod StageRefusal
pub mod StageChecked
