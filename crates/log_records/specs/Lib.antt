pub mod Heads
pub mod Back
pub mod OpenGroup
