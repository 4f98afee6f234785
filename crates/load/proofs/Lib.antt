pub mod ReadLaws
pub mod LoadLaws
