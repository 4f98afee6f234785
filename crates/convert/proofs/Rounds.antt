-- The nearest whole number: what the code tests, and THE LAWS: within half a step of the exact quotient, by any rule on halves; a half away from zero, or to
-- the even neighbour; nothing but exact halves differs between two rules; a quotient that is whole already is not changed.
use mathlib.Core.Path.{◌≡◌, refl, sym, ap, ◌∙◌}
use mathlib.Core.Bool.{Bool, true, false, cond, ◌&&◌, ◌||◌}
use mathlib.Core.Logic.{◌⊎◌, inl, inr, ⊎_elim}
use Prim.Native.Nat.{ℕ, zero, suc, ◌+◌, ◌*◌, ◌-◌, ◌/◌, ◌%◌, ◌≤◌, ◌<◌, zero-le}
use native.Mathlib.Nat.{div-add-mod', mul-div_cancel, mul-mod_left, zero-mul, add_comm, add-mul, mod-lt, div-le_self}
use native.Mathlib.Omega.{arith}
use borrow.Author.Tests.{ltb-true, ltb-false, eqb-true, eqb-false, lt-ltb, le-ltb, eq-eqb, ne_eqb}
use lib.Dec.{ltb, eqb, leb-zero}
use lib.IntN.{ℤ, pos, negsuc, neg_ℤ, nat_abs, ◌+ℤ◌, ◌-ℤ◌, ◌*ℤ◌, +ℤ_comm}
use lib.Signed.{lt_z, le_z}
use Rattle.number.specs.Answer.{given, refused}
use Rattle.cell.proofs.Signed.{abs_neg, abs-pos}
use Rattle.cell.proofs.Types.{clash, not-below}
use Rattle.number.specs.Signed.{signed_of}
use Rattle.convert.specs.Round.{Halves, away, to_even, rounded, nearest, rounded_quotient}

-- ---- what the code tests: b is what the rule says of a half
module _ (up : Halves) (n d : ℕ) (b : Bool) (e : b ≡ up (n / d)) where
  -- above a half, or at one that goes up
  abbrev goes_up : Bool
  goes_up = ltb d (2 * (n % d)) || (eqb (2 * (n % d)) d && b)

  rounded-test : rounded up n d ≡ cond goes_up (n / d + 1) (n / d)
  unfolding rounded
  rounded-test = below (ltb (2 * (n % d)) d) refl
    where
      above : (t : Bool) → eqb (2 * (n % d)) d ≡ t → ltb (2 * (n % d)) d ≡ false → rounded up n d ≡ cond goes_up (n / d + 1) (n / d)
      above true q l = rw (l, q, e, le-ltb d (2 * (n % d)) (omega (arith, eqb-true (2 * (n % d)) d q)))
      above false q l =
          let o : 2 * (n % d) ≡ d → ⊥ = eqb-false (2 * (n % d)) d q in
          rw (l, q, lt-ltb d (2 * (n % d)) (omega (arith, ltb-false (2 * (n % d)) d l)))

      below : (t : Bool) → ltb (2 * (n % d)) d ≡ t → rounded up n d ≡ cond goes_up (n / d + 1) (n / d)
      below true l =
          let h = ltb-true (2 * (n % d)) d l in
          rw (l, le-ltb d (2 * (n % d)) (omega arith), ne_eqb (2 * (n % d)) d (λ q. omega arith))
      below false l = above (eqb (2 * (n % d)) d) refl l

  pub rounded-up : goes_up ≡ true → n / d + 1 ≡ rounded up n d
  rounded-up h = rw (rounded-test, h)

  pub rounded-down : goes_up ≡ false → n / d ≡ rounded up n d
  rounded-down h = rw (rounded-test, h)

-- where halves go away from zero: down below a half, and up from it on
pub away-down : (n d : ℕ) → 2 * (n % d) < d → n / d ≡ rounded away n d
unfolding rounded
away-down n d h = rw (lt-ltb (2 * (n % d)) d h)

pub away-up : (n d : ℕ) → d ≤ 2 * (n % d) → n / d + 1 ≡ rounded away n d
unfolding rounded
away-up n d h = rw (le-ltb (2 * (n % d)) d h) (sym (same (eqb (2 * (n % d)) d)))
  where
    same : (b : Bool) → cond b (n / d + 1) (n / d + 1) ≡ n / d + 1
    same true = refl
    same false = refl

pub nearest-neg : (up : Halves) (n d : ℤ) → lt_z n (pos 0) ≡ true → nearest up n d ≡ signed_of (le_z (pos 0) d) (rounded up (nat_abs n) (nat_abs d))
unfolding nearest
nearest-neg up (pos n) d h = not-below n h
nearest-neg up (negsuc n) (pos d) h = rw (leb-zero d)
nearest-neg up (negsuc n) (negsuc d) h = refl

pub nearest-pos : (up : Halves) (n d : ℤ) → lt_z n (pos 0) ≡ false → nearest up n d ≡ signed_of (lt_z d (pos 0)) (rounded up (nat_abs n) (nat_abs d))
unfolding nearest
nearest-pos up (pos n) (pos d) h = rw (le-ltb d 0 zero-le)
nearest-pos up (pos n) (negsuc d) h = refl
nearest-pos up (negsuc n) d h = clash h

pub quotient-none : (up : Halves) (n d : ℤ) → d ≡ pos 0 → refused 17 ≡ rounded_quotient up n d
quotient-none up n d e = rw e

pub quotient_is : (up : Halves) (n d : ℤ) → (d ≡ pos 0 → ⊥) → given (nearest up n d) ≡ rounded_quotient up n d
quotient_is up n (pos zero) z = absurd (z refl)
quotient_is up n (pos (suc d)) z = refl
quotient_is up n (negsuc d) z = refl

-- ---- sizes
module _ (up : Halves) (n d : ℕ) where
  -- down, and then the rest is at most a half; or up, and then it is at least a half
  abbrev Goes : Type 0
  Goes = ((rounded up n d ≡ n / d) × (2 * (n % d) ≤ d)) ⊎ ((rounded up n d ≡ n / d + 1) × (d ≤ 2 * (n % d)))

  goes : Goes
  unfolding rounded
  goes = below (ltb (2 * (n % d)) d) refl
    where
      at : (u : Bool) → up (n / d) ≡ u → eqb (2 * (n % d)) d ≡ true → ltb (2 * (n % d)) d ≡ false → Goes
      at true y e b = inr (rw (b, e, y), omega (arith, ltb-false (2 * (n % d)) d b))
      at false y e b = inl (rw (b, e, y), omega (arith, eqb-true (2 * (n % d)) d e))

      above : (b : Bool) → eqb (2 * (n % d)) d ≡ b → ltb (2 * (n % d)) d ≡ false → Goes
      above true e b = at (up (n / d)) refl e b
      above false e b = inr (rw (b, e), omega (arith, ltb-false (2 * (n % d)) d b))

      below : (b : Bool) → ltb (2 * (n % d)) d ≡ b → Goes
      below true b = inl (rw b, omega (arith, ltb-true (2 * (n % d)) d b))
      below false b = above (eqb (2 * (n % d)) d) refl b

  -- n lies at most half of d from rounded up n d times d, on either side
  pub size-half : 0 < d → (2 * (rounded up n d * d) ≤ 2 * n + d) × (2 * n ≤ 2 * (rounded up n d * d) + d)
  size-half l = ⊎_elim down more goes
    where
      down : (rounded up n d ≡ n / d) × (2 * (n % d) ≤ d) → (2 * (rounded up n d * d) ≤ 2 * n + d) × (2 * n ≤ 2 * (rounded up n d * d) + d)
      down h = rw h.0 (omega (arith, div-add-mod' n d), omega (arith, div-add-mod' n d))

      more : (rounded up n d ≡ n / d + 1) × (d ≤ 2 * (n % d)) → (2 * (rounded up n d * d) ≤ 2 * n + d) × (2 * n ≤ 2 * (rounded up n d * d) + d)
      more h = rw h.0 (omega (arith, div-add-mod' n d, add-mul (n / d) 1 d), omega (arith, div-add-mod' n d, add-mul (n / d) 1 d, mod-lt n {m = d} l))

  -- rounding adds at most one
  pub rounded-le : rounded up n d ≤ n + 1
  rounded-le = ⊎_elim (λ h. omega (arith, h.0, div-le_self n d)) (λ h. omega (arith, h.0, div-le_self n d)) goes

  -- how far n lies from the rounded size, in d-ths
  abbrev off : ℕ
  off = (rounded up n d * d - n) + (n - rounded up n d * d)

  -- it is half a step exactly where the rest is a half
  tied : 0 < d → 2 * off ≡ d → 2 * (n % d) ≡ d
  tied l t = ⊎_elim down more goes
    where
      down : (rounded up n d ≡ n / d) × (2 * (n % d) ≤ d) → 2 * (n % d) ≡ d
      down h = let y : 2 * ((n / d * d - n) + (n - n / d * d)) ≡ d = rw h.0 at t in omega (arith, div-add-mod' n d)

      more : (rounded up n d ≡ n / d + 1) × (d ≤ 2 * (n % d)) → 2 * (n % d) ≡ d
      more h = let y : 2 * (((n / d + 1) * d - n) + (n - (n / d + 1) * d)) ≡ d = rw h.0 at t in omega (arith, div-add-mod' n d, add-mul (n / d) 1 d, mod-lt n {m = d} l)

  ties : 0 < d → 2 * (n % d) ≡ d → 2 * off ≡ d
  ties l t = ⊎_elim down more goes
    where
      down : (rounded up n d ≡ n / d) × (2 * (n % d) ≤ d) → 2 * off ≡ d
      down h = rw h.0 (omega (arith, div-add-mod' n d))

      more : (rounded up n d ≡ n / d + 1) × (d ≤ 2 * (n % d)) → 2 * off ≡ d
      more h = rw h.0 (omega (arith, div-add-mod' n d, add-mul (n / d) 1 d, mod-lt n {m = d} l))

  -- where it is, the rule decides
  at-tie : 2 * (n % d) ≡ d → rounded up n d ≡ cond (up (n / d)) (n / d + 1) (n / d)
  unfolding rounded
  at-tie t = rw (le-ltb (2 * (n % d)) d (omega arith), eq-eqb (2 * (n % d)) d t)

-- where it is not, every rule gives the same
size-alike : (u v : Halves) (n d : ℕ) → (2 * (n % d) ≡ d → ⊥) → rounded u n d ≡ rounded v n d
unfolding rounded
size-alike u v n d h = rw (ne_eqb (2 * (n % d)) d h)

-- at a tie the size goes up, or to the even neighbour
size-away : (n d : ℕ) → 0 < d → 2 * off away n d ≡ d → n < rounded away n d * d
size-away n d l t = rw (at-tie away n d (tied away n d l t)) (omega (arith, div-add-mod' n d, add-mul (n / d) 1 d, mod-lt n {m = d} l))

size-even : (n d : ℕ) → 0 < d → 2 * off to_even n d ≡ d → rounded to_even n d % 2 ≡ 0
size-even n d l t = rw (at-tie to_even n d (tied to_even n d l t)) (even (n / d) (eqb (n / d % 2) 1) refl)
  where
    even : (q : ℕ) (b : Bool) → eqb (q % 2) 1 ≡ b → cond b (q + 1) q % 2 ≡ 0
    even q true h = omega (arith, eqb-true (q % 2) 1 h)
    even q false h = let o = eqb-false (q % 2) 1 h in omega arith

-- a size that is whole already is not changed
size-met : (up : Halves) (m d : ℕ) → 0 < d → rounded up (m * d) d ≡ m
unfolding rounded
size-met up m d h =
    let z : 2 * (m * d % d) < d = omega (arith, mul-mod_left m d) in
    rw (lt-ltb (2 * (m * d % d)) d z) (mul-div_cancel m h)

-- the size of a difference
diff : (a b : ℕ) (t : Bool) → ltb a b ≡ t → nat_abs (cond t (negsuc (b - suc a)) (pos (a - b))) ≡ (a - b) + (b - a)
diff a b true h = let k = ltb-true a b h in omega arith
diff a b false h = let k = ltb-false a b h in omega arith

abs_diff : (a b : ℕ) → nat_abs (pos a +ℤ neg_ℤ (pos b)) ≡ (a - b) + (b - a)
abs_diff a zero = omega arith
abs_diff a (suc b) = diff a (suc b) (ltb a (suc b)) refl

-- a product by its signs
pub neg-pos : (a b : ℕ) → neg_ℤ (pos a) *ℤ pos b ≡ neg_ℤ (pos (a * b))
neg-pos zero b = rw zero-mul
neg-pos (suc a) b = refl

neg-neg : (a b : ℕ) → neg_ℤ (pos a) *ℤ negsuc b ≡ pos (a * suc b)
neg-neg zero b = rw zero-mul
neg-neg (suc a) b = refl

-- ---- with signs
module _ (up : Halves) where
  -- the nearest whole number times the divisor has the sign of n
  back-pos : (n : ℕ) (d : ℤ) → nearest up (pos n) d *ℤ d ≡ pos (rounded up n (nat_abs d) * nat_abs d)
  unfolding nearest
  back-pos n (pos d) = refl
  back-pos n (negsuc d) = neg-neg (rounded up n (suc d)) d

  back-neg : (n : ℕ) (d : ℤ) → nearest up (negsuc n) d *ℤ d ≡ neg_ℤ (pos (rounded up (suc n) (nat_abs d) * nat_abs d))
  unfolding nearest
  back-neg n (pos d) = neg-pos (rounded up (suc n) d) d
  back-neg n (negsuc d) = refl

  -- so its distance from n is that of the sizes
  apart : (n d : ℤ) → nat_abs (nearest up n d *ℤ d -ℤ n)
      ≡ (rounded up (nat_abs n) (nat_abs d) * nat_abs d - nat_abs n) + (nat_abs n - rounded up (nat_abs n) (nat_abs d) * nat_abs d)
  apart (pos n) d = ap (λ (z : ℤ). nat_abs (z -ℤ pos n)) (back-pos n d) ∙ abs_diff (rounded up n (nat_abs d) * nat_abs d) n
  apart (negsuc n) d =
      let m = rounded up (suc n) (nat_abs d) * nat_abs d in
      ap (λ (z : ℤ). nat_abs (z -ℤ negsuc n)) (back-neg n d) ∙ ap nat_abs (+ℤ_comm (neg_ℤ (pos m)) (pos (suc n)))
      ∙ abs_diff (suc n) m ∙ add_comm (suc n - m) (m - suc n)

  times-size : (n d : ℤ) → nat_abs (nearest up n d *ℤ d) ≡ rounded up (nat_abs n) (nat_abs d) * nat_abs d
  times-size (pos n) d = ap nat_abs (back-pos n d)
  times-size (negsuc n) d = ap nat_abs (back-neg n d) ∙ abs_neg (pos (rounded up (suc n) (nat_abs d) * nat_abs d))

  -- WITHIN HALF A STEP, by any rule on halves: 2·|INT·D − N| ≤ |D|.
  pub within-half : (n d : ℤ) → (d ≡ pos 0 → ⊥) → 2 * nat_abs (nearest up n d *ℤ d -ℤ n) ≤ nat_abs d
  within-half n d h =
      let b = size-half up (nat_abs n) (nat_abs d) (abs-pos d h) in
      omega (arith, apart n d, b.0, b.1)

  -- A QUOTIENT THAT IS WHOLE already is not changed.
  pub met : (z d : ℤ) → (d ≡ pos 0 → ⊥) → nearest up (z *ℤ d) d ≡ z
  unfolding nearest
  met (pos a) (pos zero) h = absurd (h refl)
  met (pos a) (pos (suc d)) h = ap pos (size-met up a (suc d) (omega arith))
  met (pos a) (negsuc d) h = neg-over (a * suc d) d ∙ ap pos (size-met up a (suc d) (omega arith))
    where
      neg-over : (n d : ℕ) → nearest up (neg_ℤ (pos n)) (negsuc d) ≡ pos (rounded up n (suc d))
      neg-over zero d = let e = size-met up 0 (suc d) (omega arith) in rw (rw zero-mul at e)
      neg-over (suc n) d = refl
  met (negsuc a) (pos zero) h = absurd (h refl)
  met (negsuc a) (pos (suc d)) h = over (suc a * suc d) d ∙ ap (λ (n : ℕ). neg_ℤ (pos n)) (size-met up (suc a) (suc d) (omega arith))
    where
      over : (n d : ℕ) → nearest up (neg_ℤ (pos n)) (pos (suc d)) ≡ neg_ℤ (pos (rounded up n (suc d)))
      over zero d = let e = size-met up 0 (suc d) (omega arith) in rw (rw zero-mul at e)
      over (suc n) d = refl
  met (negsuc a) (negsuc d) h = ap (λ (n : ℕ). neg_ℤ (pos n)) (size-met up (suc a) (suc d) (omega arith))

  -- its size is the rounded size
  nearest-size : (n d : ℤ) → nat_abs (nearest up n d) ≡ rounded up (nat_abs n) (nat_abs d)
  unfolding nearest
  nearest-size (pos n) (pos d) = refl
  nearest-size (pos n) (negsuc d) = abs_neg (pos (rounded up n (suc d)))
  nearest-size (negsuc n) (pos d) = abs_neg (pos (rounded up (suc n) d))
  nearest-size (negsuc n) (negsuc d) = refl

-- A HALF GOES AWAY FROM ZERO: where N lies half of D from INT-as-D, INT-as-D is the larger in size.
pub half-away : (n d : ℤ) → (d ≡ pos 0 → ⊥) → 2 * nat_abs (nearest away n d *ℤ d -ℤ n) ≡ nat_abs d → nat_abs n < nat_abs (nearest away n d *ℤ d)
half-away n d h t =
    let l = size-away (nat_abs n) (nat_abs d) (abs-pos d h) (omega (arith, apart away n d)) in
    omega (arith, times-size away n d)

-- A HALF GOES TO THE EVEN NEIGHBOUR: where N lies half of D from INT-as-D, INT is even.
pub half-even : (n d : ℤ) → (d ≡ pos 0 → ⊥) → 2 * nat_abs (nearest to_even n d *ℤ d -ℤ n) ≡ nat_abs d → nat_abs (nearest to_even n d) % 2 ≡ 0
half-even n d h t = rw (nearest-size to_even n d) (size-even (nat_abs n) (nat_abs d) (abs-pos d h) (omega (arith, apart to_even n d)))

-- equal sizes are equal numbers
nearest-alike : (u v : Halves) (n d : ℤ) → rounded u (nat_abs n) (nat_abs d) ≡ rounded v (nat_abs n) (nat_abs d) → nearest u n d ≡ nearest v n d
unfolding nearest
nearest-alike u v (pos n) (pos d) e = ap pos e
nearest-alike u v (pos n) (negsuc d) e = ap (λ (m : ℕ). neg_ℤ (pos m)) e
nearest-alike u v (negsuc n) (pos d) e = ap (λ (m : ℕ). neg_ℤ (pos m)) e
nearest-alike u v (negsuc n) (negsuc d) e = ap pos e

-- NOTHING BUT EXACT HALVES DIFFERS, between any two rules on halves: where N does not lie half of D from INT-as-D, both give INT.
pub only-halves-differ : (u v : Halves) (n d : ℤ) → (d ≡ pos 0 → ⊥) → (2 * nat_abs (nearest u n d *ℤ d -ℤ n) ≡ nat_abs d → ⊥) → nearest u n d ≡ nearest v n d
only-halves-differ u v n d h o =
    nearest-alike u v n d (size-alike u v (nat_abs n) (nat_abs d) (λ t. o (ap (λ (m : ℕ). 2 * m) (apart u n d) ∙ ties u (nat_abs n) (nat_abs d) (abs-pos d h) t)))
