-- `readings::shown_kind` meets its contract. Assumes nothing.
use Rattle.numbers.proofs.ReadingLaws.{showns}
use Rattle.readings.proofs.shown_kind.Goals as goal

pub enum_told-1 : goal.enum_told-1
enum_told-1 c = search showns

pub enum_told-in-Words : goal.enum_told-in-Words
enum_told-in-Words c = search showns

pub enum_told-in-Nothing : goal.enum_told-in-Nothing
enum_told-in-Nothing c = search showns

pub returns-in-Real : goal.returns-in-Real
returns-in-Real c = search showns

pub returns-in-Words : goal.returns-in-Words
returns-in-Words c = search showns

pub returns-in-Nothing : goal.returns-in-Nothing
returns-in-Nothing c = search showns
