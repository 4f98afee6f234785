-- Laws that the functions' proofs go by.
pub mod Zeros
