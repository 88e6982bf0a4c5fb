pub mod GroupLaws
pub mod EntryLaws
pub mod ClauseLaws
pub mod DurableLaws
