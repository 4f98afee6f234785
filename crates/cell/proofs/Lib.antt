-- Laws that belong to no one function.
pub mod Signed
pub mod Shapes
pub mod Stored
pub mod Types
pub mod Masks
pub mod Raws
pub mod Laws
