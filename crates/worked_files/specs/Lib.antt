pub mod Files
pub mod Cases
