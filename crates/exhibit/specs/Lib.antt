-- A description that is accepted.
pub mod Example
