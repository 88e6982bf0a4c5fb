pub mod Data
pub mod Facts
pub mod Shown
pub mod Reads
