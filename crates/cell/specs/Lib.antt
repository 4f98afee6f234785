-- What an element's bytes mean: data types, byte order, sign, mask, raw number.
pub mod Kind
pub mod Bytes
pub mod Sign
pub mod Mask
pub mod Raw
