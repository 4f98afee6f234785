-- `records::count` meets its contract. Assumes nothing.
use borrow.Author.Rules.{rules}
use Rattle.records.specs.Cells.{count_in}
use Rattle.records.proofs.count.Goals as goal

pub returns : goal.returns
unfolding count_in
returns c = search rules
