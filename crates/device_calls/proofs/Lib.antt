pub mod ReadLaws
pub mod LeadsLaws
