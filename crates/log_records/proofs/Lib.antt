pub mod HeadLaws
pub mod BackLaws
pub mod OpenGroupLaws
