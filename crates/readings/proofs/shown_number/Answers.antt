-- `readings::shown_number` meets its contract. Assumes nothing.
use lib.Ieee.{of_bits}
use Rattle.numbers.proofs.ReadingLaws.{showns}
use Rattle.readings.proofs.shown_number.Goals as goal

pub enum_known-s : goal.enum_known-s
enum_known-s c = search showns

pub enum_told-1 : goal.enum_told-1
enum_told-1 c = search showns

pub enum_told-in-Nothing : goal.enum_told-in-Nothing
enum_told-in-Nothing c = search showns

pub returns-in-Real : goal.returns-in-Real
returns-in-Real c = search showns

pub returns-in-Words : goal.returns-in-Words
unfolding of_bits
returns-in-Words c = search showns

pub returns-in-Nothing : goal.returns-in-Nothing
unfolding of_bits
returns-in-Nothing c = search showns
