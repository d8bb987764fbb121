pub mod RowLaws
pub mod SettleLaws
