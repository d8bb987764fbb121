pub mod Changes
pub mod Promise
