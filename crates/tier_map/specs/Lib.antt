pub mod Contents
pub mod Placement
pub mod Tables
