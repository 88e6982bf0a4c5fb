pub mod BlockLaws
pub mod SectorLaws
