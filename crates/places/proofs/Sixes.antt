-- Six places: the code's branches as laws, which `search sixes` applies.
use Prim.Native.Nat.{ℕ, ◌+◌, ◌*◌, ◌/◌, ◌%◌, ◌^◌, ◌<◌, ◌≤◌}
use native.Mathlib.Nat.{div-add-mod', mod-lt, mul-le-mul_left, mul-le-mul_right, div-eq_of_lt, div-eq_of_lt-le}
use native.Mathlib.Omega.{arith}
use mathlib.Core.Path.{◌≡◌, refl, sym, ap₂, ◌∙◌}
use mathlib.Core.Bool.{Bool, true, false, ◌&&◌}
use borrow.Author.Rules.{rules}
use borrow.Author.Tests.{leb-true, leb-false, ltb-true}
use lib.Dec.{leb, ltb}
use mir.Syntax.{w64}
use mir.Val.{Fits}
use Rattle.convert.proofs.Rounds.{away-down, away-up}
use Rattle.convert.proofs.Wholes.{left-true, right-true}
use Rattle.places.specs.declared.six.Six.{Six}
use Rattle.places.specs.Divide.{Divides}
use Rattle.places.specs.Six.{millionths_of, six_of, six_places}

abbrev six : ℕ → ℕ → Six
six w m = record { whole = w; millionths = m }

pub rest-few : (n d : ℕ) → 0 < d → n % d / d < 10000000000
rest-few n d h = omega (arith, div-eq_of_lt (mod-lt n {m = d} h))

-- so many millionths, taken apart
apart : (w m k : ℕ) → m < 1000000 → k ≡ w * 1000000 + m → six w m ≡ six_of k
apart w m k h e =
    let a : w ≡ k / 1000000 = omega arith in
    let b : m ≡ k % 1000000 = omega arith in ap₂ six a b

-- the rest of n by d is q millionths of d and the rest r
module _ (n d q r : ℕ) (v : Divides (n % d) 6 d q r) (p : 0 < d) where
  all : r + (n / d * 1000000 + q) * d ≡ n * 1000000
  all = omega (arith, v.same, div-add-mod' n d)

  whole_is : n * 1000000 / d ≡ n / d * 1000000 + q
  whole_is = div-eq_of_lt-le d (omega (arith, all)) (omega (arith, all, v.less))

  rest-is : n * 1000000 % d ≡ r
  rest-is = let e = whole_is in omega (arith, all, rw e at (div-add-mod' (n * 1000000) d))

  few : q < 1000000
  few = go (leb 1000000 q) refl
    where
      go : (b : Bool) → leb 1000000 q ≡ b → q < 1000000
      go true e = let k : 1000000 * d ≤ q * d = mul-le-mul_right d (leb-true 1000000 q e) in absurd (omega (arith, v.same, mod-lt n {m = d} p))
      go false e = leb-false 1000000 q e

  pub more-fits : Fits w64 (q + 1)
  more-fits = record { fits = omega (arith, few) }

  pub six-down : 2 * r < d → six (n / d) q ≡ six_of (millionths_of n d)
  unfolding millionths_of
  six-down h = apart (n / d) q (millionths_of n d) few (sym (away-down (n * 1000000) d (rw rest-is h)) ∙ whole_is)

  module _ (h : d ≤ 2 * r) where
    more : millionths_of n d ≡ n / d * 1000000 + q + 1
    unfolding millionths_of
    more = sym (away-up (n * 1000000) d (rw rest-is h)) ∙ rw whole_is

    -- something is left over, so the divisor is not 1
    pub whole-fits : n < 2 ^ 64 → Fits w64 (n / d + 1)
    whole-fits l =
        let k : 2 ≤ d = omega (arith, v.less) in
        record { fits = omega (arith, div-add-mod' n d, mul-le-mul_left (n / d) k) }

    pub six-next : q ≡ 999999 → six (n / d + 1) 0 ≡ six_of (millionths_of n d)
    six-next e = apart (n / d + 1) 0 (millionths_of n d) (omega arith) (omega (arith, more))

    pub six-up : (q ≡ 999999 → ⊥) → six (n / d) (q + 1) ≡ six_of (millionths_of n d)
    six-up e = apart (n / d) (q + 1) (millionths_of n d) (omega (arith, few)) (omega (arith, more))

-- ---- which divisors there are
module _ (n d : ℕ) where
  pub six-none : (ltb 0 d && ltb d 9223372036854775808) ≡ false → six 0 0 ≡ six_places n d
  unfolding six_places
  six-none h = rw h

  module _ (h : (ltb 0 d && ltb d 9223372036854775808) ≡ true) where
    pub six-some : 0 < d
    six-some = ltb-true 0 d (left-true (ltb 0 d) (ltb d 9223372036854775808) h)

    pub six_low : d < 2 ^ 63
    six_low = ltb-true d 9223372036854775808 (right-true (ltb 0 d) (ltb d 9223372036854775808) h)

    pub six-is : (r : Six) → r ≡ six_of (millionths_of n d) → r ≡ six_places n d
    unfolding six_places
    six-is r e = rw h e

pub ruleset sixes = (rest-few, more-fits, whole-fits, six-down, six-next, six-up, six-none, six-some, six_low, six-is, rules)
