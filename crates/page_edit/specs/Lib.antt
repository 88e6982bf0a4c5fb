pub mod Cut
pub mod Packed
pub mod Join
pub mod Laid
