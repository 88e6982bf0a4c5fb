pub mod BoundLaws
pub mod DamageLaws
pub mod HeaderLaws
pub mod OpenLaws
pub mod ProbeLaws
