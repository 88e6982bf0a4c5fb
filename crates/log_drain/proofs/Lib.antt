pub mod CopyLaws
pub mod DrainClauses
