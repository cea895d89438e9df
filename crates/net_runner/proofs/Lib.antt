pub mod ToldLaws
pub mod SliceLaws
