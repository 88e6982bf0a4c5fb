pub mod Block
pub mod Page
pub mod Choose
pub mod Sectors
pub mod Contents
