pub mod Numbers
pub mod Lines
pub mod Fields
pub mod Forms
pub mod Runs
pub mod Output
