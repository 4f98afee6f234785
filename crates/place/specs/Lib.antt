-- Where an object's parts stand, and what a load answers of one object.
pub mod Align
pub mod Inside
pub mod Order
pub mod Rules
pub mod Walk
pub mod Judge
pub mod Told
