-- `cell::kind::is_type` meets its contract. Assumes nothing.
use borrow.Author.Rules.{rules}
use Rattle.cell.specs.Kind.{is_type}
use Rattle.cell.proofs.kind.is_type.Goals as goal

pub returns : goal.returns
unfolding is_type
returns c = search rules
