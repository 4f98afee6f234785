-- `named::find` meets its contract. Assumes nothing.
use Rattle.text.proofs.LikeLaws.{Comparing}
use Rattle.look.proofs.SearchLaws.{Seeking}
use Prim.Native.Nat.{◌-◌}
use lib.ListN.{length}
use Rattle.tables.specs.Form.{tables_in}
use Rattle.named.proofs.find.Given as goal

abbrev pub invariant-loop-k : goal.invariant-loop-k
invariant-loop-k l = Comparing l.x l.from l.to l.name 0 (length l.name) l.n l.k

abbrev pub decreases-loop-k : goal.decreases-loop-k
decreases-loop-k l = l.k

abbrev pub invariant-objects : goal.invariant-objects
invariant-objects l = Seeking l.x (tables_in l.t) l.name l.i

abbrev pub decreases-objects : goal.decreases-objects
decreases-objects l = l.count - l.i
