-- The laws behind the contracts, the law about the definitions, and worked examples.
pub mod Divides
pub mod Signs
pub mod Sides
pub mod Sixes
pub mod Laws
pub mod Examples
