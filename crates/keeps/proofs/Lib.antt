-- What is true of the tables of every load that was accepted (Rule, Elements), which loads are (Exactly), what a refusal of the text rests on (Refused), and document 01's points for a load (Points).
pub mod Bits
pub mod Parts
pub mod Stood
pub mod Counts
pub mod Rows
pub mod Groups
pub mod Objects
pub mod Exactly
pub mod Refused
pub mod Rule
pub mod Elements
pub mod Points
