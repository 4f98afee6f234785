pub mod Skipped
pub mod Tree
pub mod Points
