-- Division after a power of ten: the first step, one digit more, and what the two numbers are.
use Prim.Native.Nat.{ℕ, ◌+◌, ◌*◌, ◌/◌, ◌%◌, ◌^◌, ◌<◌, ◌≤◌}
use native.Mathlib.Nat.{pow-suc, div-add-mod', mod-lt}
use native.Mathlib.Numerals.{add-one}
use native.Mathlib.Omega.{arith}
use mathlib.Core.Path.{◌≡◌, refl}
use borrow.Author.Rules.{rules}
use mir.Syntax.{w64}
use mir.Val.{Fits}
use Rattle.convert.proofs.Limits.{ten-le}
use Rattle.places.specs.Divide.{Divides}

-- what the loop keeps after k digits
pub record Going (n t d whole rest k : ℕ) : Type 0 where
  pub so_far : Divides n k d whole rest
  pub few : whole < 10000000000 * 10 ^ k
  pub upto : k ≤ t

pub going-first : (n t d : ℕ) → 0 < d → n / d < 10000000000 → Going n t d (n / d) (n % d) 0
going-first n t d h f = record { so_far = record { same = omega (arith, div-add-mod' n d); less = mod-lt n {m = d} h }; few = omega arith; upto = omega arith }

module _ {n t d whole rest k : ℕ} (g : Going n t d whole rest k) where
  few-enough : t ≤ 6 → whole < 10000000000000000
  few-enough h = omega (arith, ten-le k (omega (arith, g.upto)), g.few)

  pub going-times : t ≤ 6 → Fits w64 (whole * 10)
  going-times h = record { fits = omega (arith, few-enough h) }

  pub going-fits : (over : ℕ) → t ≤ 6 → over ≤ 9 → Fits w64 (whole * 10 + over)
  going-fits over h o = record { fits = omega (arith, few-enough h) }

  pub going_on : (over rem w j : ℕ) → k < t → rem + over * d ≡ 10 * rest → rem < d → over ≤ 9 → w ≡ whole * 10 + over → j ≡ k + 1 → Going n t d w rem j
  going_on over rem w j l e m o ew ej =
      let p : 10 ^ j ≡ 10 ^ k * 10 = rw (ej, add-one) (pow-suc 10 k) in
      let s = g.so_far.same in
      record {
        so_far = record { same = rw (p, ew) (omega arith); less = m };
        few = rw p (omega (arith, g.few));
        upto = omega arith;
      }

  pub going_done : t ≤ k → Divides n t d whole rest
  going_done h = let e : k ≡ t = omega (arith, g.upto) in rw e at g.so_far

pub ruleset divisions = (going-first, going-times, going-fits, going_on, going_done, refl, rules)
