pub mod Rows
pub mod Value
pub mod Names
pub mod Tables
