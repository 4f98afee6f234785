-- Laws that belong to no one function.
pub mod ListingSize
pub mod NumberLaws
pub mod ReadingLaws
pub mod BackLaws
