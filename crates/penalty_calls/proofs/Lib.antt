pub mod ArgumentLaws
pub mod LadderCall
