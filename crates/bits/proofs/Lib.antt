-- What a write does to each byte of an image, and two writes in either order.
pub mod Digits
pub mod Blends
pub mod Images
pub mod Exactly
pub mod Meets
pub mod Examples
