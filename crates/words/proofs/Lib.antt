-- The laws behind the contracts, those that callers cite, and worked examples.
pub mod Lengths
pub mod Tables
pub mod Laws
pub mod Examples
