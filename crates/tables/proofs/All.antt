-- What holds below a number, and sums below it.
--     all-at, all_of      from all to each, and back
--     all_more, all-fails     one more, and one that fails
--     any_at      from one to any
use Prim.Native.Nat.{ℕ, zero, suc, ◌+◌, ◌*◌, ◌≤◌, ◌<◌}
use mathlib.Core.Path.{◌≡◌, refl}
use mathlib.Core.Bool.{Bool, true, false, ◌&&◌, ◌||◌, and-false, or-true, false≢true}
use native.Mathlib.Omega.{arith}
use native.Mathlib.Numerals.{add-one}
use borrow.Author.Tests.{eqb-true, eqb-false}
use lib.Dec.{eqb}
use Rattle.number.specs.Below.{all_below, sum_below, any_below}

-- ---- two tests

pub both : (a b : Bool) → a ≡ true → b ≡ true → (a && b) ≡ true
both a b p q = rw (p, q)

pub left : (a b : Bool) → (a && b) ≡ true → a ≡ true
left true b e = refl
left false b e = e

pub right : (a b : Bool) → (a && b) ≡ true → b ≡ true
right true b e = e
right false b e = absurd (false≢true e)

pub three : (a b c : Bool) → (a && b && c) ≡ true → (a ≡ true) × (b ≡ true) × (c ≡ true)
three a b c h = (left a b (left (a && b) c h), right a b (left (a && b) c h), right (a && b) c h)

pub five : (a b c d e : Bool) → (a && b && c && d && e) ≡ true → (a ≡ true) × (b ≡ true) × (c ≡ true) × (d ≡ true) × (e ≡ true)
five a b c d e h =
    let p : (a && b && c && d) ≡ true = left (a && b && c && d) e h in
    let q = three a b c (left (a && b && c) d p) in
    (q.0, q.1, q.2, right (a && b && c) d p, right (a && b && c && d) e h)

pub six : (a b c d e f : Bool) → (a && b && c && d && e && f) ≡ true → (a ≡ true) × (b ≡ true) × (c ≡ true) × (d ≡ true) × (e ≡ true) × (f ≡ true)
six a b c d e f h =
    let q = five a b c d e (left (a && b && c && d && e) f h) in
    (q.0, q.1, q.2, q.3, q.4, right (a && b && c && d && e) f h)

-- ---- all below

module _ (f : ℕ → Bool) where
  pub all_none : all_below 0 f ≡ true
  unfolding all_below
  all_none = refl

  pub all_more : (i : ℕ) → all_below i f ≡ true → f i ≡ true → all_below (i + 1) f ≡ true
  unfolding all_below
  all_more i p q = rw (add-one i, p, q)

  pub all-fails : (n i : ℕ) → i < n → f i ≡ false → all_below n f ≡ false
  unfolding all_below
  all-fails zero i h p = absurd (omega arith)
  all-fails (suc n) i h p = by_place_lem (eqb i n) refl (λ l. all-fails n i l p) where
    by_place_lem : (t : Bool) → eqb i n ≡ t → (i < n → all_below n f ≡ false) → (all_below n f && f n) ≡ false
    by_place_lem true t ih = rw (← eqb-true i n t, p, and-false)
    by_place_lem false t ih =
        let d : i ≡ n → ⊥ = eqb-false i n t in
        rw (ih (omega (arith, d)))

pub all-at : (n : ℕ) (f : ℕ → Bool) → all_below n f ≡ true → (i : ℕ) → i < n → f i ≡ true
unfolding all_below
all-at zero f p i h = absurd (omega arith)
all-at (suc n) f p i h = by_place_lem (eqb i n) refl (all-at n f (left (all_below n f) (f n) p) i) where
  by_place_lem : (t : Bool) → eqb i n ≡ t → (i < n → f i ≡ true) → f i ≡ true
  by_place_lem true t ih = rw (eqb-true i n t) (right (all_below n f) (f n) p)
  by_place_lem false t ih = let d : i ≡ n → ⊥ = eqb-false i n t in ih (omega (arith, d))

pub all_of : (n : ℕ) (f : ℕ → Bool) → ((i : ℕ) → i < n → f i ≡ true) → all_below n f ≡ true
unfolding all_below
all_of zero f h = refl
all_of (suc n) f h = both (all_below n f) (f n) (all_of n f (λ i l. h i (omega arith))) (h n (omega arith))

-- ---- any below

pub any_at : (n : ℕ) (f : ℕ → Bool) (i : ℕ) → i < n → f i ≡ true → any_below n f ≡ true
unfolding any_below
any_at zero f i h p = absurd (omega arith)
any_at (suc n) f i h p = by_place_lem (eqb i n) refl (λ l. any_at n f i l p) where
  by_place_lem : (t : Bool) → eqb i n ≡ t → (i < n → any_below n f ≡ true) → (any_below n f || f n) ≡ true
  by_place_lem true t ih = rw (← eqb-true i n t, p, or-true)
  by_place_lem false t ih =
      let d : i ≡ n → ⊥ = eqb-false i n t in
      rw (ih (omega (arith, d)))

-- ---- sums below

module _ (f : ℕ → ℕ) where
  pub sum-none : 0 ≡ sum_below 0 f
  unfolding sum_below
  sum-none = refl

  pub sum_more : (n : ℕ) → sum_below (n + 1) f ≡ sum_below n f + f n
  unfolding sum_below
  sum_more n = rw (add-one n)

  pub sum-most : (k : ℕ) → ((i : ℕ) → f i ≤ k) → (n : ℕ) → sum_below n f ≤ k * n
  unfolding sum_below
  sum-most k h zero = omega arith
  sum-most k h (suc n) = omega (arith, sum-most k h n, h n)
