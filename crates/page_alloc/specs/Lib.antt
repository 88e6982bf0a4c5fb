pub mod Causes
pub mod Counted
pub mod Space
pub mod Moves
pub mod Stops
pub mod Written
