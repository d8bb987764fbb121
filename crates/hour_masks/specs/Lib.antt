pub mod StageColumns
pub mod StageHours
