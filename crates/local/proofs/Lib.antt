pub mod Tokens
pub mod Near
pub mod Skips
pub mod Refusals
pub mod Before
pub mod MoveLocal
pub mod Refused
pub mod Examples
