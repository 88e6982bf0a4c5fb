pub mod EntryLaws
pub mod CatalogLaws
pub mod CopyLaws
pub mod FailsLaws
pub mod TableLaws
pub mod TouchesLaws
pub mod ReadsLaws
