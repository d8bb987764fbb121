pub mod PartLaws
pub mod AddLaws
