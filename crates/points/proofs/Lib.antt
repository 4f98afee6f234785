-- The points' one statement.
pub mod Points
