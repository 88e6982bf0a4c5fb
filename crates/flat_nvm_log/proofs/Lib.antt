pub mod CallsAt
pub mod EntryLaws
