pub mod OpLaws
pub mod Encode
