-- Bytes in common, by the tests that the code makes.
use mathlib.Core.Path.{◌≡◌, refl, sym, ◌∙◌}
use mathlib.Core.List.{List}
use mathlib.Core.Bool.{Bool, true, false, ◌&&◌}
use Prim.Native.Nat.{ℕ, ◌+◌, ◌-◌, ◌≤◌, ◌<◌}
use native.Mathlib.Omega.{arith}
use borrow.Author.Rules.{rules}
use borrow.Author.Tests.{lt-ltb, le-ltb, ltb-true, ltb-false}
use lib.Dec.{ltb}
use Rattle.tables.specs.Form.{tables_in}
use Rattle.tables.specs.Group.{bytes, place_of}
use Rattle.look.specs.Element.{shares, touched}

pub below-from : (a b m : ℕ) → a < b → true ≡ ltb a (b + m)
below-from a b m h = sym (lt-ltb a (b + m) (omega arith))

below-turn : (a b m : ℕ) (t : Bool) → b ≤ a → ltb (a - b) m ≡ t → t ≡ ltb a (b + m)
below-turn a b m true h e = sym (lt-ltb a (b + m) (omega (arith, ltb-true (a - b) m e)))
below-turn a b m false h e = sym (le-ltb a (b + m) (omega (arith, ltb-false (a - b) m e)))

pub below-past : (a b m : ℕ) → b ≤ a → ltb (a - b) m ≡ ltb a (b + m)
below-past a b m h = below-turn a b m (ltb (a - b) m) h refl

pub share-is : (lo many p w : ℕ) (a b : Bool) → a ≡ ltb p (lo + many) → b ≡ ltb lo (p + w) → (a && b) ≡ shares lo (lo + many) p w
unfolding shares
share-is lo many p w a b e f = rw (e, f)

pub touch_is : (t : List ℕ) (lo hi g i p w : ℕ) (b : Bool) → p ≡ place_of (tables_in t) g i → w ≡ bytes (tables_in t) g → b ≡ shares lo hi p w → b ≡ touched (tables_in t) lo hi g i
unfolding touched
touch_is t lo hi g i p w b e f h = h ∙ rw (e, f)

pub ruleset commons = (below-from, below-past, share-is, touch_is, rules)
