-- Laws that belong to no one function.
pub mod Orders
pub mod Absent
pub mod OnePart
pub mod Rises
pub mod Aligns
pub mod Counts
pub mod Steps
pub mod Weights
pub mod Accepted
pub mod Stored
pub mod Examples
