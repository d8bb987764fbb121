pub mod WriteLaws
pub mod RowsLaws
