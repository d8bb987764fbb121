pub mod WorseCase
pub mod StoredWord
pub mod FormatKept
pub mod CellChange
pub mod EntryChange
pub mod AcceptedCase
pub mod WorseConduct
pub mod EachPart
