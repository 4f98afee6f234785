-- The value list: elements, calls, and what they leave.
pub mod Lines
pub mod Element
pub mod Calls
pub mod Refused
pub mod Told
pub mod Steps
