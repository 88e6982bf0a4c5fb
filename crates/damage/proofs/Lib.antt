pub mod DigitsLaws
pub mod MarkedLaws
pub mod DamageLaws
