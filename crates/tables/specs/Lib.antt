-- The lent tables: their form, the table rule, groups and addressing.
pub mod Form
pub mod Group
pub mod Rule
pub mod Sizes
