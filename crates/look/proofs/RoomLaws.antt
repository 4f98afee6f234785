-- How many lines a list has room for.
use mathlib.Core.Path.{◌≡◌, sym, ◌∙◌}
use mathlib.Core.List.{List}
use mathlib.Core.Bool.{Bool}
use Prim.Native.Nat.{ℕ, ◌≤◌}
use native.Mathlib.Omega.{arith}
use borrow.Author.Rules.{rules}
use borrow.Author.Tests.{leb-true}
use lib.Dec.{leb}
use lib.ListN.{length}
use Rattle.text.proofs.Within.{and_right}
use Rattle.tables.specs.Form.{tables_in, total}
use Rattle.number.specs.Below.{sum_below}
use Rattle.tables.specs.Group.{elements}
use Rattle.tables.specs.Sizes.{sizes_fit}
use Rattle.tables.proofs.Reading.{total-is}
use Rattle.look.specs.Calls.{Lent, groups}
use Rattle.look.specs.Steps.{checked_no}
use Rattle.look.proofs.CheckLaws.{checked-tests}

-- whether the lines are enough

-- every element has its line, where the call is not refused
pub lines-hold : (t : List ℕ) (l : Lent) (r lines : ℕ) (enough : Bool) → enough ≡ leb (total (tables_in t)) lines → r ≡ checked_no t l enough → r ≡ 0
    → sum_below (groups t) (elements (tables_in t)) ≤ lines
lines-hold t l r lines enough e p h =
    let b = checked-tests t l enough r p h in
    let f = leb-true (total (tables_in t)) lines (sym e ∙ and_right (sizes_fit l.text l.image l.base (length t)) enough b.0) in
    omega (arith, total-is l.text l.image t b.1)
