pub mod Causes
pub mod Created
pub mod Changed
pub mod Putting
pub mod Deleting
pub mod Getting
pub mod Scanning
