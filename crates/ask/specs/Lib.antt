-- The meaning of what a person types, and of how places are shown to people.
pub mod Spot
pub mod Typed
pub mod Told
