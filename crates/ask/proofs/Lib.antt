-- The laws behind the contracts, and worked examples.
pub mod Spots
pub mod Typings
pub mod Examples
