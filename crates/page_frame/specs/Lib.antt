pub mod Arena
pub mod Blocks
pub mod Frames
pub mod LineSets
pub mod Ownership
pub mod Parts
pub mod Places
