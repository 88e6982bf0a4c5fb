pub mod PositionLaws
pub mod RunLaws
pub mod LineLaws
pub mod LearnLaws
pub mod NvmFileLaws
