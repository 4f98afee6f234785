-- Division after a power of ten, and the meaning of six places. (convert's specs/Limit has a decimal against a fraction.)
pub mod Divide
pub mod Six
