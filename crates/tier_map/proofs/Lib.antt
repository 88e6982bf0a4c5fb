pub mod PlacementLaws
pub mod TableLaws
