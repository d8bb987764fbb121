pub mod CountedLaws
pub mod CountLaws
