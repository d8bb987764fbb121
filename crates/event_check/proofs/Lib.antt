pub mod EventLaws
pub mod CheckedLaws
