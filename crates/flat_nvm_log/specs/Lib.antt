pub mod Puts
pub mod Entries
pub mod Heads
pub mod Moved
pub mod Standing
