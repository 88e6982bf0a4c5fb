pub mod WordLaws
pub mod HeldLaws
pub mod MemoryLaws
pub mod ImageLaws
pub mod PieceLaws
