-- The laws behind the contracts, those about the definitions, and worked examples.
pub mod Fields
pub mod Laws
pub mod Examples
