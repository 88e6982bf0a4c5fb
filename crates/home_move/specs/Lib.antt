pub mod Frames
pub mod Moves
pub mod Table
pub mod Homes
pub mod Passing
