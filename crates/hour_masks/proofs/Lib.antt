pub mod JoinLaws
pub mod HourLaws
