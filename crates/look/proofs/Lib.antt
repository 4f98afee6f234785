-- Laws that belong to no one function.
pub mod BytesLaws
pub mod ElementLaws
pub mod MethodLaws
pub mod MeaningLaws
pub mod CheckLaws
pub mod RoomLaws
pub mod SearchLaws
pub mod Numbers
