pub mod FrameLaws
pub mod HomeLaws
pub mod JudgeLaws
pub mod MoveLaws
pub mod PlaceFacts
pub mod ReplayLaws
pub mod OpeningLaws
mod FlushLaws
mod ShowLaws
mod WriteLaws
