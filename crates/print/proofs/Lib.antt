-- Laws that belong to no one function, and examples.
pub mod PutLaws
pub mod SliceLaws
pub mod Examples
