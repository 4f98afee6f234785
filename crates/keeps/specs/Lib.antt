-- What a load accepts, and where its elements stand.
pub mod Accepted
pub mod Stands
