-- What raw numbers mean, and which raw number an asked value stores.
pub mod Whole
pub mod Limit
pub mod Method
pub mod Fraction
pub mod Shown
pub mod Round
pub mod Edition
pub mod Verbal
pub mod Asked
pub mod Told
