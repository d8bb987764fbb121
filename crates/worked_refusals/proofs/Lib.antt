pub mod Refusals
pub mod CalendarRefusals
