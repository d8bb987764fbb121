pub mod StageParties
