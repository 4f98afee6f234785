-- The printed listing.
pub mod Print
pub mod Listing
