-- The laws behind the contracts, by the tests that the code makes.
pub mod WithinLaws
