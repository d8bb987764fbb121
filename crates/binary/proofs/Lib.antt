pub mod Implies
pub mod BoundedLaws
pub mod MaskLaws
pub mod ByteLaws
pub mod WordLaws
pub mod IntegerLaws
pub mod ListLaws
pub mod ChainLaws
