-- Document 000's words and what document 01 does with each.
pub mod Kind
pub mod Row
pub mod Table
pub mod Class
pub mod Told
pub mod Inner
