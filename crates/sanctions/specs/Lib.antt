pub mod Penalties
pub mod StageTables
pub mod StageGiven
