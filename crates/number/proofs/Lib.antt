-- The laws behind the contracts, those that callers cite, and worked examples.
pub mod Bytes
pub mod Wholes
pub mod Forms
pub mod Tens
pub mod ExponentLaws
pub mod Signs
pub mod Laws
pub mod Exponents
pub mod OneReading
pub mod ExponentForms
pub mod Examples
pub mod FormLaws
