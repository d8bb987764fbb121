pub mod Months
pub mod Periods
pub mod Dates
pub mod StageTable
