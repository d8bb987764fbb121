pub mod StageReading
pub mod StageFound
