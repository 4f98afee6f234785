-- Laws that belong to no one function.
pub mod Wholes
pub mod Limits
pub mod WholeLaws
pub mod LimitLaws
pub mod MethodLaws
pub mod Floats
pub mod Rounds
pub mod EditionLaws
pub mod RoundLaws
pub mod Showns
pub mod AskedLaws
pub mod Verbals
pub mod Ring
pub mod Laws
pub mod Examples
