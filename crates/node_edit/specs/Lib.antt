pub mod Edit
pub mod Record
pub mod Cuts
