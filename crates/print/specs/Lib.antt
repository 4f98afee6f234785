-- What is printed of numbers and texts, and what putting it leaves.
pub mod Print
pub mod Put
