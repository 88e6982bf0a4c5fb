pub mod Admission
pub mod Draws
pub mod Policies
pub mod Queue
