pub mod Puts
pub mod Entries
pub mod Heads
pub mod Offsets
pub mod Standing
pub mod Calls
pub mod Groups
pub mod Facts
