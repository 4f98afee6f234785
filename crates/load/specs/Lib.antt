-- The whole load.
pub mod Load
