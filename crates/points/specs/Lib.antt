-- Document 01's points.
pub mod Points
