pub mod RowLaws
pub mod Encodes
pub mod PartLaws
pub mod ObjectLaws
pub mod TableLaws
pub mod MethodLaws
pub mod GroupLaws
pub mod BuiltLaws
