-- Signed numbers in code, by size: `Is x z m` says that the machine's number x is z, and that z is at most m in size.
-- Each operation of the code has one law; where m is a numeral, that the result fits an i64 is computed.
use mathlib.Core.Path.{◌≡◌, refl, sym, ap, ap₂, subst, ◌∙◌}
use mathlib.Core.Bool.{Bool, true, false, not, cond}
use Prim.Native.Nat.{ℕ, zero, suc, ◌+◌, ◌*◌, ◌-◌, ◌≤◌, ◌<◌, ◌^◌}
use native.Mathlib.Nat.{le_refl, le_trans, mul-le-mul, add-le-add}
use native.Mathlib.Omega.{arith}
use lib.Dec.{T, ltb, ltb→lt}
use lib.IntN.{ℤ, pos, negsuc, neg_ℤ, nat_abs, sub_ℕ, ◌+ℤ◌, ◌-ℤ◌, ◌*ℤ◌, +ℤ_idl}
use lib.Signed.{mag, lt_z}
use mir.Syntax.{w64}
use mir.Val.{SFits, to_z, of_z}
use mir.Facts.{to_z-of_z, to_z_pos}

pub abs_neg : (z : ℤ) → nat_abs (neg_ℤ z) ≡ nat_abs z
abs_neg (pos zero) = refl
abs_neg (pos (suc n)) = refl
abs_neg (negsuc n) = refl

pub abs-mul : (a b : ℤ) → nat_abs (a *ℤ b) ≡ nat_abs a * nat_abs b
abs-mul (pos a) (pos b) = refl
abs-mul (pos a) (negsuc b) = abs_neg (pos (a * suc b))
abs-mul (negsuc a) (pos b) = abs_neg (pos (suc a * b))
abs-mul (negsuc a) (negsuc b) = refl

cond-le : (t : Bool) (x y : ℤ) (m : ℕ) → (T t → nat_abs x ≤ m) → (T (not t) → nat_abs y ≤ m) → nat_abs (cond t x y) ≤ m
cond-le true x y m f g = f tt
cond-le false x y m f g = g tt

abs-sub : (a b : ℕ) → nat_abs (sub_ℕ a b) ≤ a + b
abs-sub a b = cond-le (ltb a b) (negsuc (b - suc a)) (pos (a - b)) (a + b)
    (λ t. let h = ltb→lt a b t in omega arith) (λ t. omega arith)

pub abs-add : (a b : ℤ) → nat_abs (a +ℤ b) ≤ nat_abs a + nat_abs b
abs-add (pos a) (pos b) = le_refl (a + b)
abs-add (pos a) (negsuc b) = abs-sub a (suc b)
abs-add (negsuc a) (pos b) = let h = abs-sub b (suc a) in omega arith
abs-add (negsuc a) (negsuc b) = omega arith

mag-abs : (z : ℤ) (m : ℕ) → nat_abs z ≤ m → mag z ≤ m
mag-abs (pos n) m h = h
mag-abs (negsuc n) m h = omega arith

pub record Is (x z : ℤ) (m : ℕ) : Type 0 where
  pub same : x ≡ z
  pub size : nat_abs z ≤ m

-- what the machine reads back from the bits that it stored
abbrev pub back : ℤ → ℤ
back z = to_z w64 (of_z w64 z)

pub is-fits : {x z : ℤ} {m : ℕ} → Is x z m → T (ltb m (2 ^ 63)) → SFits w64 x
is-fits {x} {z} {m} i t = subst (λ (y : ℤ). SFits w64 y) (sym i.same)
    (record { sfits = let h = ltb→lt m (2 ^ 63) t in let k = mag-abs z m i.size in omega arith })

pub is-back : {x z : ℤ} {m : ℕ} → Is x z m → T (ltb m (2 ^ 63)) → Is (back x) z m
is-back i t = record { same = to_z-of_z (is-fits i t) ∙ i.same; size = i.size }

-- a parameter or a field, and a literal
pub is_read : (z : ℤ) {m : ℕ} → nat_abs z ≤ m → T (ltb m (2 ^ 63)) → Is (back z) z m
is_read z h t = is-back (record { same = refl; size = h }) t

pub is-lit : (z : ℤ) → Is z z (nat_abs z)
is-lit z = record { same = refl; size = le_refl (nat_abs z) }

pub is_mul : {x y z w : ℤ} {m n : ℕ} → Is x z m → Is y w n → Is (x *ℤ y) (z *ℤ w) (m * n)
is_mul {z} {w} i j = record { same = ap₂ ◌*ℤ◌ i.same j.same; size = rw (abs-mul z w) (mul-le-mul i.size j.size) }

pub is-add : {x y z w : ℤ} {m n : ℕ} → Is x z m → Is y w n → Is (x +ℤ y) (z +ℤ w) (m + n)
is-add {z} {w} i j = record { same = ap₂ ◌+ℤ◌ i.same j.same; size = le_trans (abs-add z w) (add-le-add i.size j.size) }

pub is-neg : {x z : ℤ} {m : ℕ} → Is x z m → Is (neg_ℤ x) (neg_ℤ z) m
is-neg {z} i = record { same = ap neg_ℤ i.same; size = rw (abs_neg z) i.size }

pub is-sub : {x y z w : ℤ} {m n : ℕ} → Is x z m → Is y w n → Is (x -ℤ y) (z -ℤ w) (m + n)
is-sub i j = is-add i (is-neg j)

-- 0 - x, as the code turns a sign
pub is-turn : {x z : ℤ} {m : ℕ} → Is x z m → Is (pos 0 -ℤ x) (neg_ℤ z) m
is-turn {x} i = let j = is-neg i in record { same = +ℤ_idl (neg_ℤ x) ∙ j.same; size = j.size }

-- what a test of the code says: `x == 0` compares bits, `x < y` reads them back
pub is_zero : {x z : ℤ} {m : ℕ} → Is x z m → T (ltb m (2 ^ 63)) → of_z w64 x ≡ 0 → z ≡ pos 0
is_zero {x} i t h = sym i.same ∙ sym (to_z-of_z (is-fits i t)) ∙ ap (to_z w64) h

pub is-nonzero : {x z : ℤ} {m : ℕ} → Is x z m → (of_z w64 x ≡ 0 → ⊥) → z ≡ pos 0 → ⊥
is-nonzero i n h = n (ap (of_z w64) (i.same ∙ h))

pub is-test : {x y z w : ℤ} {m n : ℕ} (t : Bool) → Is x z m → Is y w n → lt_z x y ≡ t → lt_z z w ≡ t
is-test t i j h = sym (ap₂ lt_z i.same j.same) ∙ h

pub is-abs : {x z : ℤ} {m : ℕ} → Is x z m → nat_abs x ≡ nat_abs z
is-abs i = ap nat_abs i.same

-- ---- signs, and casts to and from an unsigned number
pub abs-pos : (z : ℤ) → (z ≡ pos 0 → ⊥) → 0 < nat_abs z
abs-pos (pos zero) h = absurd (h refl)
abs-pos (pos (suc n)) h = omega arith
abs-pos (negsuc n) h = omega arith

pub is-cast : (n : ℕ) → n < 2 ^ 63 → Is (to_z w64 n) (pos n) 9223372036854775807
is-cast n h = record { same = to_z_pos w64 h; size = omega arith }

-- a call's result: its `.ok` is the bound
pub returned : (z : ℤ) → mag z < 2 ^ 63 → back z ≡ z
returned z h = to_z-of_z {w = w64} (record { sfits = h })

pub is-cast-le : (n : ℕ) {m : ℕ} → n ≤ m → T (ltb m (2 ^ 63)) → Is (to_z w64 n) (pos n) m
is-cast-le n {m} h t = record { same = to_z_pos w64 (let k = ltb→lt m (2 ^ 63) t in omega arith); size = h }

-- a parameter of which only its type is known
pub is-param : {z : ℤ} → SFits w64 z → Is (back z) z (nat_abs z)
is-param {z} f = record { same = to_z-of_z f; size = le_refl (nat_abs z) }
