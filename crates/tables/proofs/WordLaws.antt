-- The coefficients that a conversion's word asks for, by the branches that the code takes.
use Prim.Native.Nat.{ℕ, ◌<◌, ◌^◌}
use mathlib.Core.Path.{◌≡◌, ◌∙◌, ap}
use mathlib.Core.Bool.{Bool, true, ◌&&◌, ◌||◌}
use borrow.Author.Rules.{rules}
use borrow.Author.Tests.{ne_eqb}
use lib.IntN.{ℤ, pos}
use lib.Signed.{mag}
use Rattle.cell.proofs.Signed.{back, returned}
use Rattle.convert.specs.Whole.{eq_z}
use Rattle.convert.specs.declared.method.Coefficients.{Coefficients}
use Rattle.rows.specs.Codes.{IDENTICAL, LINEAR}
use Rattle.number.specs.Below.{any_below}
use Rattle.tables.specs.Rule.{identical_rule, linear_rule, word_rule}

-- a number that the machine reads back from the bits that it stored is the same, so that a test of it is
same_back : (z w : ℤ) (r : Bool) → mag z < 2 ^ 63 → r ≡ eq_z (back z) w → r ≡ eq_z z w
same_back z w r h e = e ∙ ap (λ (x : ℤ). eq_z x w) (returned z h)

-- the powers of ten, one by one
pub power-is : (b : ℤ) (a0 a1 a2 a3 a4 a5 a6 : Bool) → mag b < 2 ^ 63 → a0 ≡ eq_z (back b) (pos 1) → a1 ≡ eq_z (back b) (pos 10) → a2 ≡ eq_z (back b) (pos 100) → a3 ≡ eq_z (back b) (pos 1000)
    → a4 ≡ eq_z (back b) (pos 10000) → a5 ≡ eq_z (back b) (pos 100000) → a6 ≡ eq_z (back b) (pos 1000000)
    → (a0 || a1 || a2 || a3 || a4 || a5 || a6) ≡ any_below 7 (λ t. eq_z b (pos (10 ^ t)))
unfolding any_below
power-is b a0 a1 a2 a3 a4 a5 a6 h e0 e1 e2 e3 e4 e5 e6 =
    rw (
      same_back b (pos 1) a0 h e0,
      same_back b (pos 10) a1 h e1,
      same_back b (pos 100) a2 h e2,
      same_back b (pos 1000) a3 h e3,
      same_back b (pos 10000) a4 h e4,
      same_back b (pos 100000) a5 h e5,
      same_back b (pos 1000000) a6 h e6,
    )

module _ (k : Coefficients) where
  pub identical-is : (b c e f : Bool) → mag k.b < 2 ^ 63 → mag k.c < 2 ^ 63 → mag k.e < 2 ^ 63 → mag k.f < 2 ^ 63
      → b ≡ eq_z (back k.b) (pos 1) → c ≡ eq_z (back k.c) (pos 0) → e ≡ eq_z (back k.e) (pos 0) → f ≡ eq_z (back k.f) (pos 1)
      → (b && c && e && f) ≡ identical_rule k
  unfolding identical_rule
  identical-is b c e f hb hc he hf p q r s =
      rw (same_back k.b (pos 1) b hb p, same_back k.c (pos 0) c hc q, same_back k.e (pos 0) e he r, same_back k.f (pos 1) f hf s)

  pub linear-is : (b e : Bool) → mag k.b < 2 ^ 63 → mag k.e < 2 ^ 63 → b ≡ any_below 7 (λ t. eq_z (back k.b) (pos (10 ^ t))) → e ≡ eq_z (back k.e) (pos 0)
      → (b && e) ≡ linear_rule k
  unfolding linear_rule
  linear-is b e hb he p q = rw (p, returned k.b hb, same_back k.e (pos 0) e he q)

  -- by the conversion's word
  module _ (w : ℕ) where
    pub word-identical : (r : Bool) → w ≡ IDENTICAL → r ≡ identical_rule k → r ≡ word_rule w k
    unfolding word_rule
    word-identical r e p = rw (e, p)

    pub word-linear : (r : Bool) → w ≡ LINEAR → r ≡ linear_rule k → r ≡ word_rule w k
    unfolding word_rule
    word-linear r e p = rw (e, p)

    pub word-any : (w ≡ IDENTICAL → ⊥) → (w ≡ LINEAR → ⊥) → true ≡ word_rule w k
    unfolding word_rule
    word-any a b = rw (ne_eqb w IDENTICAL a, ne_eqb w LINEAR b)

pub ruleset conversions = (power-is, identical-is, linear-is, word-identical, word-linear, word-any, rules)
