-- Verbal tables: entries, and the walk over them.
use mathlib.Core.Path.{◌≡◌, refl, sym, ◌∙◌}
use mathlib.Core.Bool.{Bool, true, false, not, ◌&&◌, ◌||◌}
use Prim.Native.Nat.{ℕ, zero, suc, ◌+◌, ◌-◌, ◌≤◌, ◌<◌}
use native.Mathlib.Numerals.{add-one}
use native.Mathlib.Omega.{arith}
use lib.Dec.{eqb, eqb-suc-suc, eqb-suc-zero, eqb-zero-suc}
use lib.IntN.{ℤ, pos, negsuc, nat_abs}
use lib.Signed.{lt_z}
use Rattle.cell.proofs.Types.{clash, not-below}
use Rattle.number.specs.Signed.{signed_of}
use Rattle.convert.specs.Whole.{eq_z}
use Rattle.convert.specs.Fraction.{Value, text}
use Rattle.convert.specs.Verbal.{text_of, default_of, place_in, entry_of, entries_from, verbal_of}

-- ---- a number's sign and size
pub number-neg : (sign m n : ℕ) (z : ℤ) → lt_z z (pos 0) ≡ true → n ≡ nat_abs z → (not (eqb sign 0) && eqb m n) ≡ eq_z (signed_of (not (eqb sign 0)) m) z
number-neg sign m n (pos k) h e = not-below k h
number-neg sign m n (negsuc k) h e = rw e (go (not (eqb sign 0)) m)
  where
    go : (b : Bool) (m : ℕ) → (b && eqb m (suc k)) ≡ eq_z (signed_of b m) (negsuc k)
    go true zero = eqb-zero-suc k
    go true (suc m) = eqb-suc-suc m k
    go false m = refl

pub number-pos : (sign m n : ℕ) (z : ℤ) → lt_z z (pos 0) ≡ false → n ≡ nat_abs z → ((eqb sign 0 || eqb m 0) && eqb m n) ≡ eq_z (signed_of (not (eqb sign 0)) m) z
number-pos sign m n (pos k) h e = rw e (go (eqb sign 0) m)
  where
    go : (b : Bool) (m : ℕ) → ((b || eqb m 0) && eqb m k) ≡ eq_z (signed_of (not b) m) (pos k)
    go true m = refl
    go false zero = refl
    go false (suc m) = rw (eqb-suc-zero m)
number-pos sign m n (negsuc k) h e = clash h

-- ---- the walk: what is left of the entries, from entry e on
module _ (f : ℕ → ℕ → ℕ) (e : ℕ) (other : Value) (z : ℤ) {b : Bool} (q : b ≡ eq_z (entry_of (f e)).number z) where
  pub walk_here : (left : ℕ) → 0 < left → b ≡ true → text (entry_of (f e)).first (entry_of (f e)).past ≡ text_of (entries_from f e left) other z
  unfolding text_of entries_from
  walk_here zero l y = absurd (omega arith)
  walk_here (suc n) l y = rw (sym q ∙ y)

  pub walk-on : (left : ℕ) → 0 < left → b ≡ false → text_of (entries_from f (e + 1) (left - 1)) other z ≡ text_of (entries_from f e left) other z
  unfolding text_of entries_from
  walk-on zero l y = absurd (omega arith)
  walk-on (suc n) l y = let k : suc n - 1 ≡ n = omega arith in rw (k, add-one, sym q ∙ y)

pub walk_end : (f : ℕ → ℕ → ℕ) (e : ℕ) (other : Value) (z : ℤ) (left : ℕ) → left ≤ 0 → other ≡ text_of (entries_from f e left) other z
unfolding text_of entries_from
walk_end f e other z zero h = refl
walk_end f e other z (suc n) h = absurd (omega arith)

pub walk_start : (f : ℕ → ℕ → ℕ) (e count first past : ℕ) (z : ℤ) → text_of (entries_from f e count) (default_of (place_in first) (place_in past)) z ≡ verbal_of f e count first past z
unfolding verbal_of
walk_start f e count first past z = refl
