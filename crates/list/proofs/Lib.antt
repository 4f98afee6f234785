-- Laws that belong to no one function.
pub mod CallLaws
pub mod Writer
pub mod Writes
