-- The single tests of the rule, and the sizes, by the branches that the code takes.
use Prim.Native.Nat.{ℕ, ◌+◌, ◌-◌, ◌≤◌, ◌<◌}
use mathlib.Core.Path.{◌≡◌, refl, sym}
use mathlib.Core.Bool.{Bool, true, false, ◌&&◌}
use native.Mathlib.Omega.{arith}
use borrow.Author.Rules.{rules}
use borrow.Author.Tests.{le-leb, lt-leb, leb-true, leb-false}
use lib.Dec.{leb}
use Rattle.tables.specs.Form.{table_sections}
use Rattle.tables.specs.Rule.{text_rule, inside_rule}
use Rattle.tables.specs.Sizes.{sizes_fit}

pub text-is : (n from past : ℕ) → (leb from past && leb past n) ≡ text_rule n from past
unfolding text_rule
text-is n from past = refl

pub inside_is : (m at many : ℕ) (b : Bool) → b ≡ leb (at + many) m → b ≡ inside_rule m at many
unfolding inside_rule
inside_is m at many b e = e

module _ (a b m : ℕ) where
  pub sum-rest : a ≤ m → leb b (m - a) ≡ leb (a + b) m
  sum-rest h = by-test (leb b (m - a)) refl where
    by-test : (t : Bool) → leb b (m - a) ≡ t → t ≡ leb (a + b) m
    by-test true t = let l : b ≤ m - a = leb-true b (m - a) t in sym (le-leb (a + b) m (omega arith))
    by-test false t = let l : m - a < b = leb-false b (m - a) t in sym (lt-leb (a + b) m (omega arith))

  pub sum_past : m < a → false ≡ leb (a + b) m
  sum_past h = sym (lt-leb (a + b) m (omega arith))

pub ruleset tests = (text-is, inside_is, sum-rest, sum_past, rules)

-- n bytes of description, m of image, a base address, c cells
module _ (n m b c : ℕ) where
  pub sizes-in : (leb n 16777216 && leb m 1048576) ≡ true → (leb (b + m) 4294967296 && leb 36617 c) ≡ sizes_fit n m b c
  unfolding sizes_fit table_sections
  sizes-in h = rw h

  pub sizes-out : (leb n 16777216 && leb m 1048576) ≡ false → false ≡ sizes_fit n m b c
  unfolding sizes_fit table_sections
  sizes-out h = rw h

pub ruleset lent = (sizes-in, sizes-out, rules)
