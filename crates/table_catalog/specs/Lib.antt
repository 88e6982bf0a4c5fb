pub mod Catalog
pub mod Causes
pub mod Stored
pub mod Lookup
pub mod Where
