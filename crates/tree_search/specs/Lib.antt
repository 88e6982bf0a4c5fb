pub mod Tree
pub mod Way
pub mod Record
pub mod Next
pub mod Where
