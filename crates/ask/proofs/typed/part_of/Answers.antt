-- `part_of` meets its contract.
use Rattle.ask.proofs.Typings.{part-letters}
use Rattle.ask.proofs.typed.part_of.Goals as goal

pub returns-in-120 : goal.returns-in-120
returns-in-120 c = search part-letters

pub returns-in-121 : goal.returns-in-121
returns-in-121 c = search part-letters

pub returns-in-118 : goal.returns-in-118
returns-in-118 c = search part-letters

pub returns-in_default : goal.returns-in_default
returns-in_default c = search part-letters

pub returns-in_default-2 : goal.returns-in_default-2
returns-in_default-2 c = search part-letters

pub returns-in_default-3 : goal.returns-in_default-3
returns-in_default-3 c = search part-letters
