pub mod Fields
pub mod Steady
pub mod Sizes
pub mod Telling
pub mod Quiet
pub mod Cleaning
pub mod Entering
pub mod Touching
