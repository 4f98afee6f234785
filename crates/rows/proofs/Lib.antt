-- Laws of the tables of numbers.
pub mod TableLaws
pub mod CodesAre
