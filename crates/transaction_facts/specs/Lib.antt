pub mod Records
pub mod Books
pub mod Showing
pub mod AsPages
pub mod Aborts
