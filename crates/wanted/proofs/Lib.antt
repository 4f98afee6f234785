-- Laws that belong to no one function.
pub mod StandLaws
pub mod WantedLaws
