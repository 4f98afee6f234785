pub mod Token
pub mod Same
