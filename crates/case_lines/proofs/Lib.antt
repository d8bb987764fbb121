pub mod CaseLineLaws
pub mod CaseLines
