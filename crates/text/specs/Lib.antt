pub mod Walk
pub mod Answer
pub mod Bytes
pub mod Blank
pub mod Token
pub mod Item
pub mod Skip
