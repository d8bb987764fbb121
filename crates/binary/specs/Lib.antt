pub mod Bounded
pub mod Bytes
pub mod Word
pub mod Integers
pub mod Lists
pub mod StageClosures
