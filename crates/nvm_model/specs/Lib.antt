pub mod Word
pub mod Memory
pub mod Choose
pub mod Held
pub mod Progress
pub mod Contents
pub mod LineBytes
