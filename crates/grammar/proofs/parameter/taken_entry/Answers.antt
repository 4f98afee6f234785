use Rattle.grammar.proofs.ParameterLaws.{entries}
use Rattle.grammar.proofs.parameter.taken_entry.Goals as goal

pub returns-then-d-ne0 : goal.returns-then-d-ne0
returns-then-d-ne0 c = search entries

pub returns-then-has_number : goal.returns-then-has_number
returns-then-has_number c = search entries

pub returns-then-count_of-ge-MOST_ENTRIES : goal.returns-then-count_of-ge-MOST_ENTRIES
returns-then-count_of-ge-MOST_ENTRIES c = search entries

pub returns : goal.returns
returns c = search entries
