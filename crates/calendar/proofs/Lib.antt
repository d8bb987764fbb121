pub mod MonthLaws
pub mod TableLaws
pub mod PeriodLaws
pub mod DateLaws
