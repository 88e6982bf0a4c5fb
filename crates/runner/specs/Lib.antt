pub mod Cause
pub mod Sent
pub mod Run
pub mod Resting
pub mod Statuses
