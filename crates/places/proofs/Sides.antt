-- A decimal against a fraction: the code's branches as laws, which `search sides` applies.
use Prim.Native.Nat.{ℕ, suc, ◌*◌, ◌/◌, ◌^◌, ◌<◌, ◌≤◌}
use native.Mathlib.Nat.{div-add-mod', mul-le-mul, mul-le-mul_right}
use native.Mathlib.Omega.{arith}
use mathlib.Core.Path.{◌≡◌, refl, sym, ap, ◌∙◌}
use mathlib.Core.Bool.{Bool, true, false, ◌&&◌, ◌||◌}
use borrow.Author.Rules.{rules}
use borrow.Author.Tests.{leb-true, leb-false, ltb-true, ltb-false, eqb-true, eqb-false, le-leb, lt-leb}
use lib.Dec.{leb, ltb, eqb}
use lib.IntN.{ℤ, pos, negsuc, nat_abs}
use lib.Signed.{lt_z, mag}
use mir.Facts.{to_z-of_z}
use mir.Syntax.{w64}
use mir.Val.{SFits}
use Rattle.cell.proofs.Signed.{back}
use Rattle.cell.proofs.Types.{clash}
use Rattle.number.specs.Told.{scaled}
use Rattle.number.specs.declared.decimal.Decimal.{Decimal}
use Rattle.convert.specs.Limit.{formed, at_most_fraction, fraction_at_most}
use Rattle.convert.proofs.LimitLaws.{formed-whole, formed-tens}
use Rattle.convert.proofs.Wholes.{sized, left-true, right-true}
use Rattle.places.specs.Divide.{Divides}
use Rattle.places.proofs.Signs.{ten-some, under, over, both_negative, fraction-negative, decimal-negative, none-negative}

-- ---- sizes: n · 10^t is q times d and the rest r
module _ {n t d q r : ℕ} (v : Divides n t d q r) (w : ℕ) where
  pub sizes-under : leb w q ≡ leb (w * d) (n * 10 ^ t)
  sizes-under = go (leb w q) refl
    where
      go : (b : Bool) → leb w q ≡ b → b ≡ leb (w * d) (n * 10 ^ t)
      go true e = sym (le-leb (w * d) (n * 10 ^ t) (omega (arith, v.same, mul-le-mul_right d (leb-true w q e))))
      go false e = sym (lt-leb (w * d) (n * 10 ^ t) (omega (arith, v.same, v.less, mul-le-mul_right {m = suc q} {n = w} d (omega (arith, leb-false w q e)))))

  pub sizes-over : (ltb q w || (eqb q w && eqb r 0)) ≡ leb (n * 10 ^ t) (w * d)
  sizes-over = go (ltb q w) (eqb q w) (eqb r 0) refl refl refl
    where
      go : (a b c : Bool) → ltb q w ≡ a → eqb q w ≡ b → eqb r 0 ≡ c → (a || (b && c)) ≡ leb (n * 10 ^ t) (w * d)
      go true b c x y z = sym (le-leb (n * 10 ^ t) (w * d) (omega (arith, v.same, v.less, mul-le-mul_right {m = suc q} {n = w} d (omega (arith, ltb-true q w x)))))
      go false true true x y z = sym (le-leb (n * 10 ^ t) (w * d) (rw (sym (eqb-true q w y)) (omega (arith, v.same, eqb-true r 0 z))))
      go false true false x y z = let k : r ≡ 0 → ⊥ = eqb-false r 0 z in sym (lt-leb (n * 10 ^ t) (w * d) (rw (sym (eqb-true q w y)) (omega (arith, v.same))))
      go false false c x y z =
          let k : q ≡ w → ⊥ = eqb-false q w y in
          let l : suc w ≤ q = omega (arith, ltb-false q w x) in
          sym (lt-leb (n * 10 ^ t) (w * d) (omega (arith, v.same, v.less, mul-le-mul_right d l)))

-- a fraction past every decimal
module _ (w t n d : ℕ) (h : 10000000000 ≤ n / d) (l : w ≤ 9999999999) (p : 0 < d) where
  past : w * d < n * 10 ^ t
  past =
      let a : 10000000000 * d ≤ n / d * d = mul-le-mul_right d h in
      let b : w * d ≤ 9999999999 * d = mul-le-mul_right d l in
      let c : n * 1 ≤ n * 10 ^ t = mul-le-mul (omega arith) (ten-some t) in
      omega (arith, div-add-mod' n d)

  pub past-under : true ≡ leb (w * d) (n * 10 ^ t)
  past-under = sym (le-leb (w * d) (n * 10 ^ t) (omega (arith, past)))

  pub past-over : false ≡ leb (n * 10 ^ t) (w * d)
  past-over = sym (lt-leb (n * 10 ^ t) (w * d) past)

-- ---- signs: the machine reads z back, m is its size, and x and y are the sides of the sizes
module _ (b : Bool) (w t d : ℕ) (z : ℤ) (f : SFits w64 z) where
  pub fraction-under : lt_z (back z) (pos 0) ≡ true → b ≡ false → false ≡ under b w t z d
  fraction-under h e = rw e (fraction-negative w t d z (rw (to_z-of_z f) at h)).0

  pub fraction-over : lt_z (back z) (pos 0) ≡ true → b ≡ false → true ≡ over b w t z d
  fraction-over h e = rw e (fraction-negative w t d z (rw (to_z-of_z f) at h)).1

  pub decimal-under : lt_z (back z) (pos 0) ≡ false → b ≡ true → 0 < d → true ≡ under b w t z d
  decimal-under h e p = rw e (decimal-negative w t d z (rw (to_z-of_z f) at h) p).0

  module _ (m : ℕ) (em : m ≡ nat_abs (back z)) where
    size_is : m ≡ nat_abs z
    size_is = sized z f.sfits em

    pub decimal-over : lt_z (back z) (pos 0) ≡ false → b ≡ true → 0 < d → (eqb w 0 && eqb m 0) ≡ over b w t z d
    decimal-over h e p = rw (e, size_is) (decimal-negative w t d z (rw (to_z-of_z f) at h) p).1

    module _ (x : Bool) (ex : x ≡ leb (w * d) (m * 10 ^ t)) where
      pub both-over : lt_z (back z) (pos 0) ≡ true → b ≡ true → x ≡ over b w t z d
      both-over h e = rw e (ex ∙ rw size_is (both_negative w t d z (rw (to_z-of_z f) at h)).1)

      pub none-under : lt_z (back z) (pos 0) ≡ false → b ≡ false → x ≡ under b w t z d
      none-under h e = rw e (ex ∙ rw size_is (none-negative w t d z (rw (to_z-of_z f) at h)).0)

    module _ (y : Bool) (ey : y ≡ leb (m * 10 ^ t) (w * d)) where
      pub both_under : lt_z (back z) (pos 0) ≡ true → b ≡ true → y ≡ under b w t z d
      both_under h e = rw e (ey ∙ rw size_is (both_negative w t d z (rw (to_z-of_z f) at h)).0)

      pub none_over : lt_z (back z) (pos 0) ≡ false → b ≡ false → y ≡ over b w t z d
      none_over h e = rw e (ey ∙ rw size_is (none-negative w t d z (rw (to_z-of_z f) at h)).1)

-- ---- the divisor: k is its size
divisor : (d : ℤ) (x : Bool) (k : ℕ) → mag d < 2 ^ 63 → (lt_z (pos 0) d && x) ≡ true → k ≡ nat_abs d → (pos k ≡ d) × (0 < k) × (k < 2 ^ 63)
divisor (pos n) x k l h e = (ap pos e, omega (arith, ltb-true 0 n (left-true (ltb 0 n) x h)), omega arith)
divisor (negsuc n) x k l h e = clash (sym h)

module _ (d : ℤ) (x : Bool) (k : ℕ) (f : SFits w64 d) (h : (lt_z (pos 0) (back d) && x) ≡ true) (e : k ≡ nat_abs (back d)) where
  divisor-is : (pos k ≡ d) × (0 < k) × (k < 2 ^ 63)
  divisor-is = divisor d x k f.sfits (rw (to_z-of_z f) at h) (sized d f.sfits e)

  pub divisor-some : 0 < k
  divisor-some = divisor-is.1

  pub divisor-low : k < 2 ^ 63
  divisor-low = divisor-is.2

-- ---- numerator and divisor with their signs: x tells whether the decimal has the form
module _ (a : Decimal) (n d : ℤ) (x : Bool) (fd : SFits w64 d) (ex : x ≡ formed (scaled a)) where
  module _ (h : (lt_z (pos 0) (back d) && x) ≡ false) where
    pub sides-under-none : false ≡ at_most_fraction (scaled a) n d
    unfolding at_most_fraction
    sides-under-none = rw (rw (to_z-of_z fd, ex) at h)

    pub sides-over-none : false ≡ fraction_at_most n d (scaled a)
    unfolding fraction_at_most
    sides-over-none = rw (rw (to_z-of_z fd, ex) at h)

  module _ (k : ℕ) (r : Bool) (fn : SFits w64 n) (h : (lt_z (pos 0) (back d) && x) ≡ true) (ek : k ≡ nat_abs (back d)) where
    pub sides-under : r ≡ under a.negative a.whole a.tens (back n) k → r ≡ at_most_fraction (scaled a) n d
    unfolding at_most_fraction
    sides-under e = e ∙ rw (to_z-of_z fn, (divisor-is d x k fd h ek).0, rw (to_z-of_z fd, ex) at h)

    pub sides-over : r ≡ over a.negative a.whole a.tens (back n) k → r ≡ fraction_at_most n d (scaled a)
    unfolding fraction_at_most
    sides-over e = e ∙ rw (to_z-of_z fn, (divisor-is d x k fd h ek).0, rw (to_z-of_z fd, ex) at h)

module _ (a : Decimal) (n d : ℤ) (r : Bool) (fn : SFits w64 n) (fd : SFits w64 d) where
  pub under-fraction : r ≡ at_most_fraction (scaled a) (back n) (back d) → r ≡ at_most_fraction (scaled a) n d
  under-fraction e = rw (to_z-of_z fn, to_z-of_z fd) at e

  pub over-fraction : r ≡ fraction_at_most (back n) (back d) (scaled a) → r ≡ fraction_at_most n d (scaled a)
  over-fraction e = rw (to_z-of_z fn, to_z-of_z fd) at e

pub ruleset sides = (
  sizes-under,
  sizes-over,
  past-under,
  past-over,
  fraction-under,
  fraction-over,
  decimal-under,
  decimal-over,
  both-over,
  none-under,
  both_under,
  none_over,
  formed-whole,
  formed-tens,
  left-true,
  right-true,
  divisor-some,
  divisor-low,
  sides-under-none,
  sides-over-none,
  sides-under,
  sides-over,
  under-fraction,
  over-fraction,
  rules,
)
