pub mod MakeUpLaws
pub mod ByTermsLaws
