pub mod SameLength
pub mod SoundLaws
pub mod LackLaws
pub mod TreeDamageLaws
pub mod Editing
pub mod Storing
pub mod Joined
pub mod PageLaws
pub mod UnderLaws
pub mod StandLaws
pub mod PathLaws
pub mod RootLaws
pub mod LeafOfKey
pub mod LineChangeLaws
pub mod FreshLaws
pub mod FullLaws
pub mod FullWayLaws
mod ByLines
mod LineCostLaws
