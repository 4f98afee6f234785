pub mod Move
pub mod Parameter
pub mod Keyword
pub mod Read
pub mod Out
