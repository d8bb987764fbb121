pub mod CountedInstances
pub mod StageCounted
