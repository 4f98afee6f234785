-- Laws that belong to no one function.
pub mod FormLaws
pub mod GroupLaws
pub mod All
pub mod TestLaws
pub mod ObjectLaws
pub mod WordLaws
pub mod PartLaws
pub mod LoopLaws
pub mod Cells
pub mod Addressing
pub mod Reading
