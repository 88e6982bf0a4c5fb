pub mod DrawLaws
pub mod QueueLaws
