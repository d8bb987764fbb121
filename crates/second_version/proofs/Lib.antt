pub mod RecordCopies
pub mod FileSections
pub mod SameCase
pub mod SameSettlement
pub mod WorkedCopies
pub mod NumberRefusals
