-- Each object of a description that was read: what it needs, where it stands, and the order in which objects are judged.
pub mod Object
pub mod Stage
