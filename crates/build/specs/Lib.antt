-- The tables that a load leaves.
pub mod Build
pub mod Row
