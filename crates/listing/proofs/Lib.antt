-- Laws that belong to no one function, and examples.
pub mod LineLaws
pub mod ListingLaws
pub mod Examples
