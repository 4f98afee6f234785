-- Laws that belong to no one function: by the branches that the code takes, and what follows where all objects are accepted.
pub mod LayoutLaws
pub mod GroundLaws
pub mod BasisLaws
pub mod NeedLaws
pub mod ObjectLaws
pub mod Shares
pub mod StageLaws
pub mod Each
pub mod Totals
