pub mod Decimal
pub mod StagePut
pub mod Line
pub mod Listing
