pub mod KeyPlaceLaws
pub mod LeafLaws
pub mod SameLength
pub mod ChildEdits
pub mod PairLaws
pub mod MergeLaws
pub mod CutLaws
