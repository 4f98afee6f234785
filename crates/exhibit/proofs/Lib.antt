-- What becomes of it, computed.
pub mod Example
