pub mod Answers
pub mod OutOfRange
