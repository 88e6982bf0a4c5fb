pub mod PartData
