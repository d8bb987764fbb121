pub mod Layout
pub mod Case
pub mod Decode
pub mod File
pub mod Lookup
pub mod Sections
pub mod StageRead
