pub mod Room
pub mod Node
pub mod Marks
pub mod Sound
pub mod Inner
pub mod Work
pub mod Spans
pub mod Search
