-- The refusals of a load.
pub mod Refusals
