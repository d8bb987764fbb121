pub mod BearerLaws
pub mod TermLaws
pub mod PartyBounds
pub mod CallLaws
