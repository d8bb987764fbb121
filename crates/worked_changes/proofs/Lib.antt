pub mod WorseCases
pub mod SecondVersionCase
