-- Small laws: tests joined, flags, and sums and tests over the three parts of each object.
use Prim.Native.Nat.{ℕ, zero, suc, ◌+◌, ◌*◌, ◌≤◌, ◌<◌}
use mathlib.Core.Path.{◌≡◌, refl, ◌∙◌}
use mathlib.Core.Bool.{Bool, true, false, cond, not, ◌&&◌, ◌||◌, false≢true}
use native.Mathlib.Omega.{arith}
use lib.Dec.{eqb}
use Rattle.number.specs.Below.{sum_below, all_below}
use Rattle.build.specs.Build.{flag}

pub and : {a b : Bool} → a ≡ true → b ≡ true → (a && b) ≡ true
and p q = rw (p, q)

pub or_left : {a : Bool} (b : Bool) → a ≡ true → (a || b) ≡ true
or_left b p = rw p

pub or_right : (a : Bool) {b : Bool} → b ≡ true → (a || b) ≡ true
or_right true p = refl
or_right false p = p

-- a test that holds where another does
pub wanted : (a b : Bool) → (not a || b) ≡ true → a ≡ true → b ≡ true
wanted true b h e = h
wanted false b h e = absurd (false≢true e)

-- two choices by one test
pub both-test : {A B : Type 0} (R : A → B → Type 0) (t : Bool) {x y : A} {u v : B} → (t ≡ true → R x u) → (t ≡ false → R y v) → R (cond t x y) (cond t u v)
both-test R true p q = p refl
both-test R false p q = q refl

-- ---- flags

pub flag-least : (b : Bool) → flag b ≤ 1
flag-least true = omega arith
flag-least false = omega arith

pub flag-back : (b : Bool) → eqb (flag b) 1 ≡ b
flag-back true = refl
flag-back false = refl

-- ---- three parts of each object

pub all-threes : (n : ℕ) (f : ℕ → Bool) → ((i : ℕ) → i < n → (f (i * 3) ≡ true) × (f (i * 3 + 1) ≡ true) × (f (i * 3 + 2) ≡ true)) → all_below (n * 3) f ≡ true
unfolding all_below
all-threes zero f h = refl
all-threes (suc n) f h =
    let e : suc n * 3 ≡ suc (suc (suc (n * 3))) = omega arith in
    let a : n * 3 + 1 ≡ suc (n * 3) = omega arith in
    let b : n * 3 + 2 ≡ suc (suc (n * 3)) = omega arith in
    let t = h n (omega arith) in
    rw e (and (and (and (all-threes n f (λ i l. h i (omega arith))) t.0) (rw a at t.1)) (rw b at t.2))

pub sum-threes : (n : ℕ) (f k : ℕ → ℕ) → ((i : ℕ) → i < n → k i ≡ f (i * 3) + f (i * 3 + 1) + f (i * 3 + 2)) → sum_below n k ≡ sum_below (n * 3) f
unfolding sum_below
sum-threes zero f k h = refl
sum-threes (suc n) f k h =
    let e : suc n * 3 ≡ suc (suc (suc (n * 3))) = omega arith in
    let a : n * 3 + 1 ≡ suc (n * 3) = omega arith in
    let b : n * 3 + 2 ≡ suc (suc (n * 3)) = omega arith in
    let t : k n ≡ f (n * 3) + f (suc (n * 3)) + f (suc (suc (n * 3))) = h n (omega arith) ∙ rw (a, b) in
    let s : sum_below n k ≡ sum_below (n * 3) f = sum-threes n f k (λ i l. h i (omega arith)) in
    rw e (omega arith)
