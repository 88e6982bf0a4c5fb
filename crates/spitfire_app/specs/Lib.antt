pub mod CommandLine
pub mod Damage
pub mod Promises
pub mod Laws
