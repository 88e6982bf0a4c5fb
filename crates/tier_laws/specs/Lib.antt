pub mod GeneratedWalks
pub mod Laws
pub mod Rows
pub mod Walks
pub mod WrittenWalks
