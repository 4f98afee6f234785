-- What the demands are about.
pub mod Placed
pub mod Leads
pub mod Conversions
pub mod Rules
pub mod Nearest
pub mod Editions
pub mod Value
pub mod Readings
pub mod Writings
pub mod Runs
pub mod Anew
pub mod Frames
pub mod Either
pub mod Standing
pub mod Powers
pub mod Types
