pub mod LogData
pub mod Open
pub mod Calls
pub mod Undoing
