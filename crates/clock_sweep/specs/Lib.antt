pub mod Circles
pub mod Clock
