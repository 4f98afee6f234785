-- Limits on what a raw number means: the code's branches as laws, which `search withins` applies.
use mathlib.Core.Path.{◌≡◌, refl, sym, ap, ap₂, ◌∙◌}
use mathlib.Core.Bool.{Bool, true, false, cond, ◌&&◌}
use mathlib.Core.List.{List}
use Prim.Native.Nat.{ℕ}
use native.Mathlib.Omega.{arith}
use borrow.Author.Rules.{rules}
use lib.IntN.{ℤ}
use Rattle.number.specs.Answer.{given, refused}
use Rattle.number.specs.Decimal.{Scaled}
use Rattle.cell.specs.declared.kind.Shape.{Shape}
use Rattle.convert.specs.declared.method.Coefficients.{Coefficients}
use Rattle.convert.specs.declared.fraction.Physical.{Physical}
use Rattle.convert.specs.declared.asked.RawRefusal.{RawRefusal}
use Rattle.std.specs.Prelude.{Result, Ok, Err}
use Rattle.convert.specs.Limit.{at_most_fraction, fraction_at_most}
use Rattle.convert.specs.Fraction.{Value, none, number, text, fraction_of}
use Rattle.convert.specs.Round.{Halves}
use Rattle.convert.specs.Asked.{value_within, rounded_raw, means_within, limited_raw, asked_raw}
use Rattle.convert.specs.Told.{held, told_raw}

-- ---- what a line that holds a value says of the limits
state-of : {p q : Physical} → p ≡ q → p.state ≡ q.state
state-of e = ap (λ (x : Physical). x.state) e

module _ (lower upper : Scaled) (p : Physical) where
  held_number : (v : Value) → p ≡ held v → p.state ≡ 1 → (at_most_fraction lower p.first p.second && fraction_at_most p.first p.second upper) ≡ value_within lower upper v
  held_number none e h = let g = state-of e in absurd (omega arith)
  held_number (number n d) e h = ap (λ (x : Physical). at_most_fraction lower x.first x.second && fraction_at_most x.first x.second upper) e
  held_number (text a b) e h = let g = state-of e in absurd (omega arith)

  held-other : (v : Value) → p ≡ held v → (p.state ≡ 1 → ⊥) → false ≡ value_within lower upper v
  held-other none e h = refl
  held-other (number n d) e h = absurd (h (state-of e))
  held-other (text a b) e h = refl

  -- y is what the machine reads back of z, n and d of the line's two numbers
  module _ (k : Coefficients) (z y : ℤ) (e : p ≡ held (fraction_of k y)) (ey : y ≡ z) where
    pub means-so : (n d : ℤ) (u v : Bool) → p.state ≡ 1 → n ≡ p.first → d ≡ p.second → u ≡ at_most_fraction lower n d → v ≡ fraction_at_most n d upper → (u && v) ≡ means_within lower upper k z
    unfolding means_within
    means-so n d u v h en ed eu ev =
        ap₂ ◌&&◌ (eu ∙ ap₂ (at_most_fraction lower) en ed) (ev ∙ rw (en, ed))
        ∙ held_number (fraction_of k y) e h ∙ ap (λ (x : ℤ). value_within lower upper (fraction_of k x)) ey

    pub means-not : (p.state ≡ 1 → ⊥) → false ≡ means_within lower upper k z
    unfolding means_within
    means-not h = held-other (fraction_of k y) e h ∙ ap (λ (x : ℤ). value_within lower upper (fraction_of k x)) ey

-- ---- the rounded number a, where what it means lies within the limits; y is what the machine reads back of z
module _ (up : Halves) (lower upper : Scaled) (k : Coefficients) (t : Shape) (mask : ℕ) (s : List ℕ) (a : Result ℤ RawRefusal) (told : told_raw a ≡ rounded_raw up lower upper k t mask s) where
  told_is : (r : Result ℤ RawRefusal) → a ≡ r → limited_raw lower upper k (told_raw r) ≡ asked_raw up lower upper k t mask s
  unfolding asked_raw
  told_is r e = ap (limited_raw lower upper k) (ap told_raw (sym e) ∙ told)

  pub asked-refused : (r : RawRefusal) → a ≡ Err r → told_raw (Err r) ≡ asked_raw up lower upper k t mask s
  asked-refused r e = told_is (Err r) e

  module _ (z y : ℤ) (e : a ≡ Ok z) (ey : y ≡ z) {b : Bool} (eb : b ≡ means_within lower upper k y) where
    limited : cond b (given y) (refused 16) ≡ asked_raw up lower upper k t mask s
    limited = rw (eb, ey) (told_is (Ok z) e)

    pub asked-inside : b ≡ true → given y ≡ asked_raw up lower upper k t mask s
    asked-inside q = ap (λ (w : Bool). cond w (given y) (refused 16)) (sym q) ∙ limited

    pub asked-outside : b ≡ false → refused 16 ≡ asked_raw up lower upper k t mask s
    asked-outside q = ap (λ (w : Bool). cond w (given y) (refused 16)) (sym q) ∙ limited

pub ruleset withins = (means-so, means-not, rules)
