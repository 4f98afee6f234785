-- A physical write, each way through its judgements: the code's branches as laws, which `search askeds` applies.
use mathlib.Core.Path.{◌≡◌, sym, ap, ap₂, ◌∙◌}
use mathlib.Core.Bool.{Bool, true, false, cond, ◌&&◌}
use mathlib.Core.List.{List}
use Prim.Native.Nat.{ℕ, ◌+◌, ◌*◌, ◌^◌, ◌≤◌, ◌<◌}
use native.Mathlib.Omega.{arith}
use borrow.Author.Tests.{lt-leb, le-leb}
use borrow.Author.Rules.{rules}
use lib.IntN.{ℤ, nat_abs, ◌+ℤ◌, ◌*ℤ◌}
use mir.Syntax.{w64}
use mir.Val.{SFits, to_z, of_z}
use Rattle.number.proofs.Signs.{under-most}
use Rattle.number.specs.Answer.{Answer, given, refused}
use Rattle.number.specs.Decimal.{Scaled, decimal_of}
use Rattle.number.specs.Told.{scaled, told_decimal}
use Rattle.number.specs.declared.decimal.Decimal.{Decimal}
use Rattle.number.specs.declared.digits.NoForm.{NoForm}
use Rattle.std.specs.Prelude.{Result, Ok, Err}
use Rattle.number.proofs.Laws.{decimal-form}
use Rattle.cell.specs.declared.kind.Shape.{Shape}
use Rattle.cell.specs.Raw.{fits_raw}
use Rattle.cell.proofs.Signed.{Is, back, is-fits, is-back, is_read, is_mul, is-add, is-abs, is_zero, is-nonzero, abs-pos}
use Rattle.convert.specs.declared.method.Coefficients.{Coefficients}
use Rattle.convert.specs.declared.asked.RawRefusal.{RawRefusal}
use Rattle.number.specs.Signed.{signed_of, most_signed}
use Rattle.convert.specs.Whole.{all_small, Small}
use Rattle.convert.specs.Limit.{at_most}
use Rattle.convert.specs.Round.{Halves, nearest, raw_for}
use Rattle.convert.specs.Asked.{fitting_raw, asked_of, nearest_raw, rounded_raw}
use Rattle.convert.specs.Told.{told_raw}
use Rattle.convert.proofs.Wholes.{abs-signed, small-told, product-fits}
use Rattle.convert.proofs.Limits.{ten-is, ten-fits}
use Rattle.convert.proofs.Rounds.{quotient-none, quotient_is}

-- ---- b·p + c·q, as the code works it out
abbrev pub worked : ℤ → ℤ → ℤ → ℤ → ℤ
worked b p c q = back (back b *ℤ back p) +ℤ back (back c *ℤ back q)

module _ (b p c q : ℤ) (hb : nat_abs b ≤ 1000000000) (hp : nat_abs p ≤ 1000000000) (hc : nat_abs c ≤ 1000000000) (hq : nat_abs q ≤ 1000000) where
  worked-is : Is (worked b p c q) (b *ℤ p +ℤ c *ℤ q) (1000000000 * 1000000000 + 1000000000 * 1000000)
  worked-is = is-add (is-back (is_mul (is_read b hb tt) (is_read p hp tt)) tt) (is-back (is_mul (is_read c hc tt) (is_read q hq tt)) tt)

  pub worked-fits : SFits w64 (worked b p c q)
  worked-fits = is-fits worked-is tt

  pub worked-size : nat_abs (back (worked b p c q)) < 2 ^ 61
  worked-size = let i = is-back worked-is tt in omega (arith, is-abs i, i.size)

  pub worked-some : (of_z w64 (worked b p c q) ≡ 0 → ⊥) → 0 < nat_abs (back (worked b p c q))
  worked-some h = let i = is-back worked-is tt in omega (arith, is-abs i, abs-pos (b *ℤ p +ℤ c *ℤ q) (is-nonzero worked-is h))

-- ---- the nearest raw number
module _ (up : Halves) (k : Coefficients) (p q : ℤ) (s : Small k) (hp : nat_abs p ≤ 1000000000) (hq : nat_abs q ≤ 1000000) where
  over : Is (worked k.b p k.c q) (k.b *ℤ p +ℤ k.c *ℤ q) (1000000000 * 1000000000 + 1000000000 * 1000000)
  over = worked-is k.b p k.c q s.b hp s.c hq

  under : Is (worked k.e p k.f q) (k.e *ℤ p +ℤ k.f *ℤ q) (1000000000 * 1000000000 + 1000000000 * 1000000)
  under = worked-is k.e p k.f q s.e hp s.f hq

  pub raw-none : of_z w64 (worked k.e p k.f q) ≡ 0 → refused 17 ≡ raw_for up k p q
  unfolding raw_for
  raw-none h = quotient-none up (k.b *ℤ p +ℤ k.c *ℤ q) (k.e *ℤ p +ℤ k.f *ℤ q) (is_zero under tt h)

  pub raw-is : (y z : ℤ) → (of_z w64 (worked k.e p k.f q) ≡ 0 → ⊥) → z ≡ nearest up (back (worked k.b p k.c q)) (back (worked k.e p k.f q)) → y ≡ z
      → given y ≡ raw_for up k p q
  unfolding raw_for
  raw-is y z h e r =
      ap given (r ∙ e ∙ ap₂ (nearest up) (is-back over tt).same (is-back under tt).same)
      ∙ quotient_is up (k.b *ℤ p +ℤ k.c *ℤ q) (k.e *ℤ p +ℤ k.f *ℤ q) (is-nonzero under h)

-- ---- a decimal's two numbers: either sign has room; y is what the machine reads back of z, and r is 10^t
pub asked-signed : (n : ℕ) (negative : Bool) → n ≤ 1000000000 → n ≤ most_signed negative
asked-signed n negative h = under-most n negative (omega arith)

pub over-size : (negative : Bool) (n : ℕ) (y z : ℤ) → z ≡ signed_of negative n → y ≡ z → n ≤ 1000000000 → nat_abs y ≤ 1000000000
over-size negative n y z e r h = omega (arith, ap nat_abs (r ∙ e), abs-signed negative n)

pub under-size : (t r : ℕ) → r ≡ 10 ^ t → t ≤ 6 → nat_abs (to_z w64 r) ≤ 1000000
under-size t r e h = let i = ten-is t r e h in omega (arith, is-abs i, i.size)

module _ (up : Halves) (k : Coefficients) (d : Scaled) (b : Bool) (e : b ≡ all_small k) where
  pub near-is : (y z : ℤ) (r : ℕ) (a : Answer ℤ) → b ≡ true → z ≡ signed_of d.negative d.whole → y ≡ z → r ≡ 10 ^ d.tens → d.tens ≤ 6
      → a ≡ raw_for up k y (to_z w64 r) → a ≡ nearest_raw up k d
  unfolding nearest_raw
  near-is y z r a h ez ey er t ea = ea ∙ ap₂ (raw_for up k) (ey ∙ ez) (ten-is d.tens r er t).same ∙ rw (sym e ∙ h)

  pub near_none : b ≡ false → refused 17 ≡ nearest_raw up k d
  unfolding nearest_raw
  near_none h = rw (sym e ∙ h)

-- ---- form, limits, nearest, type and mask
pub asked-tens : (s : List ℕ) (a : Result Decimal NoForm) (d : Decimal) → told_decimal a ≡ decimal_of s → a ≡ Ok d → d.tens ≤ 6
asked-tens s a d told e = (decimal-form s (scaled d) (sym (ap told_decimal e) ∙ told)).tens_most

module _ (up : Halves) (lower upper : Scaled) (k : Coefficients) (t : Shape) (mask : ℕ) (s : List ℕ) (a : Result Decimal NoForm) (told : told_decimal a ≡ decimal_of s) where
  pub asked-formless : (n : NoForm) → a ≡ Err n → refused 15 ≡ rounded_raw up lower upper k t mask s
  unfolding rounded_raw asked_of
  asked-formless n e = rw (sym told, e)

  module _ (d : Decimal) (e : a ≡ Ok d) where
    is : decimal_of s ≡ given (scaled d)
    is = sym told ∙ ap told_decimal e

    pub asked-large : 1000000000 < d.whole → refused 15 ≡ rounded_raw up lower upper k t mask s
    unfolding rounded_raw asked_of
    asked-large h = rw (is, lt-leb d.whole 1000000000 h)

    module _ (h : d.whole ≤ 1000000000) {x y : Bool} (ex : x ≡ at_most lower (scaled d)) (ey : y ≡ at_most (scaled d) upper) where
      test : (x && y) ≡ (at_most lower (scaled d) && at_most (scaled d) upper)
      test = ap₂ ◌&&◌ ex ey

      pub asked-outside : (x && y) ≡ false → refused 16 ≡ rounded_raw up lower upper k t mask s
      unfolding rounded_raw asked_of
      asked-outside o = rw (is, le-leb d.whole 1000000000 h, sym test ∙ o)

      module _ (o : (x && y) ≡ true) (n : Result ℤ RawRefusal) (p : told_raw n ≡ nearest_raw up k (scaled d)) where
        asked_is : fitting_raw t mask (told_raw n) ≡ rounded_raw up lower upper k t mask s
        unfolding rounded_raw asked_of
        asked_is = ap (fitting_raw t mask) p ∙ rw (is, le-leb d.whole 1000000000 h, sym test ∙ o)

        pub asked-none : (r : RawRefusal) → n ≡ Err r → told_raw (Err r) ≡ rounded_raw up lower upper k t mask s
        asked-none r en = sym (ap (λ (x : Result ℤ RawRefusal). fitting_raw t mask (told_raw x)) en) ∙ asked_is

        -- u is what the machine reads back of z
        module _ (z u : ℤ) (en : n ≡ Ok z) (eu : u ≡ z) {b : Bool} (eb : b ≡ fits_raw t mask u) where
          fitted : cond (fits_raw t mask u) (given u) (refused 18) ≡ rounded_raw up lower upper k t mask s
          fitted = rw eu (sym (ap (λ (w : Result ℤ RawRefusal). fitting_raw t mask (told_raw w)) en) ∙ asked_is)

          pub asked-fits : b ≡ true → given u ≡ rounded_raw up lower upper k t mask s
          asked-fits q = ap (λ (w : Bool). cond w (given u) (refused 18)) (sym q ∙ eb) ∙ fitted

          pub asked-unfit : b ≡ false → refused 18 ≡ rounded_raw up lower upper k t mask s
          asked-unfit q = ap (λ (w : Bool). cond w (given u) (refused 18)) (sym q ∙ eb) ∙ fitted

pub ruleset askeds = (asked-signed, product-fits, worked-fits, worked-size, worked-some, raw-none, raw-is, small-told, over-size, under-size, ten-fits, near-is, near_none, asked-formless, asked-tens, asked-large, asked-outside, rules)
