-- Where an element stands: the three ways to store, that every element is within the room, and that no two share a place.
use Prim.Native.Nat.{ℕ, zero, suc, ◌+◌, ◌-◌, ◌*◌, ◌/◌, ◌%◌, ◌≤◌, ◌<◌}
use mathlib.Core.Path.{◌≡◌, refl, sym, ◌∙◌, ap}
use mathlib.Core.Bool.{Bool, true, false}
use native.Mathlib.Omega.{arith}
use native.Mathlib.Nat.{mul_comm, suc-mul, mul-le-mul_left, mul-le-mul_right, mul-add-div_right, mul-add-mod_self_right, div-eq_of_lt, mod-eq_of_lt, mod-lt, div-lt_iff_lt-mul, div-add-mod'}
use borrow.Author.Tests.{eqb-true}
use lib.Dec.{eqb}
use Rattle.tables.specs.Group.{position}

-- ---- the three ways

module _ (x wide high a b : ℕ) (h : a < x) where
  y_of : (b * x + a) / x ≡ b
  y_of = mul-add-div_right (omega arith) b a ∙ rw (div-eq_of_lt h) (omega arith)

  x-of : (b * x + a) % x ≡ a
  x-of = mul-add-mod_self_right b x a ∙ mod-eq_of_lt h

  -- "ROW_DIR: x runs fastest"
  pub row-dir : position 0 x wide high (b * x + a) ≡ b * wide + a
  unfolding position
  row-dir = rw (y_of, x-of)

  -- "COLUMN_DIR: y runs fastest"
  pub column-dir : position 2 x wide high (b * x + a) ≡ a * high + b
  unfolding position
  column-dir = rw (y_of, x-of)

-- "INDEX_DECR stores the axis's last point first"
pub index-decr : (x wide high a : ℕ) → a < x → position 1 x wide high a ≡ x - 1 - a
unfolding position
index-decr x wide high a h = refl

-- ---- within the room

-- a of n, b of k: a·k + b is below n·k
pub pair-below : (a b n k : ℕ) → a < n → b < k → a * k + b < n * k
pair-below a b n k h l =
    let p : suc a * k ≤ n * k = mul-le-mul_right k h in
    omega (arith, suc-mul a k)

module _ (x y i : ℕ) (h : i < x * y) where
  some_x : 0 < x
  some_x = by_zero x h where
    by_zero : (z : ℕ) → i < z * y → 0 < z
    by_zero zero l = absurd (omega arith)
    by_zero (suc z) l = omega arith

  x_below : i % x < x
  x_below = mod-lt i some_x

  y-below : i / x < y
  y-below = (div-lt_iff_lt-mul {k = x} {x = i} {y = y} some_x).1 (rw (mul_comm x y) at h)

module _ (w x y wide high : ℕ) (p : x ≤ wide) (q : y ≤ high) (e : w ≡ 1 → y ≡ 1) where
  pub position-below : (i : ℕ) → i < x * y → position w x wide high i < wide * high
  unfolding position
  position-below i h = by-walk (eqb w 2) (eqb w 1) refl refl where
    a : i % x < wide
    a = let l : i % x < x = x_below x y i h in omega arith

    b : i / x < high
    b = let l : i / x < y = y-below x y i h in omega arith

    by-walk : (c d : Bool) → eqb w 2 ≡ c → eqb w 1 ≡ d → position w x wide high i < wide * high
    by-walk true d r s = rw r (pair-below (i % x) (i / x) wide high a b)
    by-walk false true r s =
        let f : y ≡ 1 = e (eqb-true w 1 s) in
        let m : wide * 1 ≤ wide * high = mul-le-mul_left wide (omega arith) in
        let o : 0 < x = some_x x y i h in
        rw (r, s) (omega arith)
    by-walk false false r s = rw (r, s) (rw (mul_comm wide high) (pair-below (i / x) (i % x) high wide b a))

-- ---- no two at one place

-- a·k + b with b below k gives back a and b
pair_same : (a b c d k : ℕ) → b < k → d < k → a * k + b ≡ c * k + d → (a ≡ c) × (b ≡ d)
pair_same a b c d k h l e =
    let p : a ≡ c = sym (y_of k 0 0 b a h) ∙ ap (λ (n : ℕ). n / k) e ∙ y_of k 0 0 d c l in
    let q : b ≡ d = sym (x-of k 0 0 b a h) ∙ ap (λ (n : ℕ). n % k) e ∙ x-of k 0 0 d c l in
    (p, q)

-- an index is its points
same_points : (x i j : ℕ) → i / x ≡ j / x → i % x ≡ j % x → i ≡ j
same_points x i j p q = sym (div-add-mod' i x) ∙ rw (p, q) (div-add-mod' j x)

module _ (w x y wide high : ℕ) (p : x ≤ wide) (q : y ≤ high) (e : w ≡ 1 → y ≡ 1) where
  pub position-same : (i j : ℕ) → i < x * y → j < x * y → position w x wide high i ≡ position w x wide high j → i ≡ j
  unfolding position
  position-same i j h l = by-walk (eqb w 2) (eqb w 1) refl refl where
    a : (k : ℕ) → k < x * y → k % x < wide
    a k m = let n : k % x < x = x_below x y k m in omega arith

    b : (k : ℕ) → k < x * y → k / x < high
    b k m = let n : k / x < y = y-below x y k m in omega arith

    by-walk : (c d : Bool) → eqb w 2 ≡ c → eqb w 1 ≡ d → position w x wide high i ≡ position w x wide high j → i ≡ j
    by-walk true d r s t =
        let u = pair_same (i % x) (i / x) (j % x) (j / x) high (b i h) (b j l) (rw r at t) in
        same_points x i j u.1 u.0
    by-walk false true r s t =
        let f : y ≡ 1 = e (eqb-true w 1 s) in
        let v : x - 1 - i ≡ x - 1 - j = rw (r, s) at t in
        let m : i < x * 1 = rw (← f) h in
        let n : j < x * 1 = rw (← f) l in
        omega arith
    by-walk false false r s t =
        let u = pair_same (i / x) (i % x) (j / x) (j % x) wide (a i h) (a j l) (rw (r, s) at t) in
        same_points x i j u.0 u.1

  -- two different indices have different positions
  pub position-apart : (i j : ℕ) → i < x * y → j < x * y → (i ≡ j → ⊥) → position w x wide high i ≡ position w x wide high j → ⊥
  position-apart i j h l d t = d (position-same i j h l t)
