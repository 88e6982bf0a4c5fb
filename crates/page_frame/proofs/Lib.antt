pub mod ArenaCalls
pub mod ArenaLaws
pub mod FillLaws
pub mod FrameLaws
pub mod Margins
pub mod Memory
pub mod Sharing
