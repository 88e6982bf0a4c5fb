pub mod OpenFacts
pub mod ShownPages
pub mod Calls
pub mod Undoing
pub mod OpenGroup
pub mod Steps
pub mod Order
