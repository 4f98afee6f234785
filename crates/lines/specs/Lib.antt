-- The meaning of a text's lines and of a line's fields.
pub mod Field
