-- Laws that belong to no one function.
pub mod LineLaws
pub mod ApartLaws
pub mod RefreshLaws
