-- Which numbers and places a load's refusal can have.
pub mod Moves
pub mod Refusing
