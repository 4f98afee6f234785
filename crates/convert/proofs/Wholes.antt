-- Whole numbers with a sign: what the code's tests say.
use mathlib.Core.Path.{◌≡◌, refl, sym, ap, ap₂, ◌∙◌}
use mathlib.Core.Bool.{Bool, true, false, ◌&&◌}
use Prim.Native.Nat.{ℕ, suc, ◌-◌, ◌≤◌, ◌<◌, ◌^◌}
use native.Mathlib.Omega.{arith}
use borrow.Author.Tests.{eqb-true, eqb-false, eq-eqb, ne_eqb, leb-true}
use lib.Dec.{T, ltb, eqb}
use lib.IntN.{ℤ, pos, negsuc, nat_abs, ◌*ℤ◌}
use lib.Signed.{mag}
use mir.Syntax.{w64}
use mir.Val.{SFits, of_z}
use Rattle.cell.proofs.Signed.{Is, back, is-fits, is_read, is_mul, returned, abs_neg}
use Rattle.convert.specs.declared.method.Coefficients.{Coefficients}
use Rattle.number.specs.Signed.{signed_of}
use Rattle.convert.specs.Whole.{eq_z, small, all_small, Small}

-- `x == y` of two computed numbers compares their bits
pub same_bits : (z w : ℤ) → mag z < 2 ^ 63 → mag w < 2 ^ 63 → eqb (of_z w64 z) (of_z w64 w) ≡ eq_z z w
same_bits (pos a) (pos b) h k = refl
same_bits (pos a) (negsuc b) h k = ne_eqb a (2 ^ 64 - suc b) (λ e. omega arith)
same_bits (negsuc a) (pos b) h k = ne_eqb (2 ^ 64 - suc a) b (λ e. omega arith)
same_bits (negsuc a) (negsuc b) h k = go (eqb a b) refl
  where
    go : (t : Bool) → eqb a b ≡ t → eqb (2 ^ 64 - suc a) (2 ^ 64 - suc b) ≡ t
    go true e = eq-eqb (2 ^ 64 - suc a) (2 ^ 64 - suc b) (omega (arith, eqb-true a b e))
    go false e = ne_eqb (2 ^ 64 - suc a) (2 ^ 64 - suc b) (λ q. eqb-false a b e (omega arith))

pub is-equal : {x y z w : ℤ} {m n : ℕ} → Is x z m → Is y w n → T (ltb m (2 ^ 63)) → T (ltb n (2 ^ 63)) → eqb (of_z w64 x) (of_z w64 y) ≡ eq_z z w
is-equal {x} {y} i j s t = same_bits x y (is-fits i s).sfits (is-fits j t).sfits ∙ ap₂ eq_z i.same j.same

-- a size that the code worked out of a field
pub sized : (z : ℤ) {n : ℕ} → mag z < 2 ^ 63 → n ≡ nat_abs (back z) → n ≡ nat_abs z
sized z h e = e ∙ ap nat_abs (returned z h)

-- the size of a number with a sign
pub abs-signed : (b : Bool) (n : ℕ) → nat_abs (signed_of b n) ≡ n
abs-signed true n = abs_neg (pos n)
abs-signed false n = refl

-- ---- a conjunction, taken apart
pub left-true : (a b : Bool) → (a && b) ≡ true → a ≡ true
left-true true b h = refl
left-true false b h = h

pub right-true : (a b : Bool) → (a && b) ≡ true → b ≡ true
right-true true b h = h
right-true false b h = clash h
  where
    clash : {X : Type 0} → false ≡ true → X
    clash e = let z : ◌≡◌ {A = ℕ} 0 1 = cc in absurd (omega arith)

-- ---- the test on the four coefficients as facts
pub small-facts : (k : Coefficients) → all_small k ≡ true → Small k
unfolding all_small
small-facts k h =
    let three = left-true (small k.b && small k.c && small k.e) (small k.f) h in
    let two = left-true (small k.b && small k.c) (small k.e) three in
    record {
      b = leb-true (nat_abs k.b) 1000000000 (left-true (small k.b) (small k.c) two);
      c = leb-true (nat_abs k.c) 1000000000 (right-true (small k.b) (small k.c) two);
      e = leb-true (nat_abs k.e) 1000000000 (right-true (small k.b && small k.c) (small k.e) three);
      f = leb-true (nat_abs k.f) 1000000000 (right-true (small k.b && small k.c && small k.e) (small k.f) h);
    }

pub small-told : (k : Coefficients) (b : Bool) → b ≡ all_small k → b ≡ true → Small k
small-told k b e h = small-facts k (sym e ∙ h)

-- a product, as the code works it out
pub product-fits : (b p : ℤ) (m : ℕ) → nat_abs b ≤ 1000000000 → nat_abs p ≤ m → m ≤ 1000000000 → SFits w64 (back b *ℤ back p)
product-fits b p m hb hp h = is-fits (is_mul (is_read b hb tt) (is_read p {m = 1000000000} (omega arith) tt)) tt
