pub mod OpenLaws
pub mod LineLaws
