pub mod PartyLaws
pub mod StageLaws
