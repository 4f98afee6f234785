use Prim.Native.Nat.{ℕ, ◌<◌}
use mathlib.Core.Path.{◌≡◌}
use mathlib.Core.Bool.{Bool, true}
use Rattle.number.specs.Below.{all_below}
use Rattle.rule.proofs.below.all_below.Given as goal

-- the rule kept by each number so far is any that tells what the calls answer
abbrev pub invariant-loop-i : goal.invariant-loop-i
invariant-loop-i g l = (f : ℕ → Bool) → ((i : ℕ) (r : Bool) → i < l.n → goal.F-post g l.keeps i r → r ≡ f i) → all_below l.i f ≡ true
