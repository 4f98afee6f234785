-- The grammar as data: sections, slots, codes, rows.
pub mod Codes
pub mod Sections
pub mod Slots
pub mod Kinds
pub mod Row
pub mod Rows
pub mod Numbered
pub mod Cells
