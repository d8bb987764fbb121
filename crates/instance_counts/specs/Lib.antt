pub mod StageInstances
