pub mod CircleLaws
pub mod ClockLaws
pub mod KeptLaws
