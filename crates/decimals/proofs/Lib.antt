-- The laws behind the contracts, by the tests that the code makes.
pub mod TenLaws
pub mod GatherLaws
pub mod MantissaLaws
pub mod RunLaws
