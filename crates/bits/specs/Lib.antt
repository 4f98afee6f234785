-- The bits that an element has in the bytes of an image.
pub mod Bits
