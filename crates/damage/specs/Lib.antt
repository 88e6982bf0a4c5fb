pub mod DamageText
pub mod Laws
pub mod Checks
