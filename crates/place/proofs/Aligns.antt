-- Alignment, by the tests that the code makes; and `aligned` is the least address from n on that the alignment divides.
use Prim.Native.Nat.{ℕ, zero, suc, ◌+◌, ◌*◌, ◌-◌, ◌/◌, ◌%◌, ◌^◌, ◌<◌, ◌≤◌}
use native.Mathlib.Nat.{div-add-mod', mod-lt, mod-eq_of_lt, mul-add-mod_self_right, mod_self}
use native.Mathlib.Omega.{arith}
use mathlib.Core.Path.{◌≡◌, refl, sym, ◌∙◌, ap}
use mathlib.Core.Bool.{Bool, true, false, cond}
use borrow.Author.Tests.{eq-eqb, ne_eqb, ltb-true, ltb-false, eqb-true, eqb-false}
use borrow.Author.Rules.{rules}
use lib.Dec.{eqb, ltb}
use Rattle.cell.specs.declared.kind.Shape.{Shape}
use Rattle.place.specs.Align.{word_for, alignment, next_from, aligned}
use Rattle.place.specs.declared.order.Aligns.{Aligns}

-- the word for a size, and a data type's alignment
module _ (a : Aligns) (w : ℕ) where
  pub word_byte : w ≡ 1 → a.byte ≡ word_for a w
  unfolding word_for
  word_byte e = rw (eq-eqb w 1 e)

  pub word-word : w ≡ 2 → a.word ≡ word_for a w
  unfolding word_for
  word-word e = rw (ne_eqb w 1 (omega arith), eq-eqb w 2 e)

  pub word-long : (w ≡ 1 → ⊥) → (w ≡ 2 → ⊥) → a.long ≡ word_for a w
  unfolding word_for
  word-long e f = rw (ne_eqb w 1 e, ne_eqb w 2 f)

module _ (a : Aligns) (t : Shape) (w : ℕ) (q : w ≡ word_for a t.bytes) where
  pub align-own : w ≡ 0 → t.align ≡ alignment a t
  unfolding alignment
  align-own e = rw (← q, eq-eqb w 0 e)

  pub align-set : (w ≡ 0 → ⊥) → w ≡ alignment a t
  unfolding alignment
  align-set e = rw (← q, ne_eqb w 0 e)

pub ruleset words = (word_byte, word-word, word-long, align-own, align-set, rules)

-- from r past a multiple of a, the next multiple is found within a - r steps
up_at : (k a q : ℕ) → 0 < a → next_from k a (q * a + a) ≡ q * a + a
unfolding next_from
up_at zero a q p = refl
up_at (suc k) a q p = rw (mul-add-mod_self_right q a a, mod_self a)

up-on : (k a q r : ℕ) (t : Bool) → (r + 1 < a → next_from k a (q * a + (r + 1)) ≡ q * a + a) → ltb (r + 1) a ≡ t → r < a → next_from k a (q * a + (r + 1)) ≡ q * a + a
up-on k a q r true ih e l = ih (ltb-true (r + 1) a e)
up-on k a q r false ih e l = let f : r + 1 ≡ a = omega (arith, ltb-false (r + 1) a e) in rw f (up_at k a q (omega arith))

up : (k a q r : ℕ) → 0 < r → r < a → a ≤ k + r → next_from k a (q * a + r) ≡ q * a + a
unfolding next_from
up zero a q r p l h = absurd (omega arith)
up (suc k) a q r p l h =
    let z : (q * a + r) % a ≡ r = mul-add-mod_self_right q a r ∙ mod-eq_of_lt l in
    let n : q * a + r + 1 ≡ q * a + (r + 1) = omega arith in
    rw (z, ne_eqb r 0 (omega arith), n) (up-on k a q r (ltb (r + 1) a) (λ g. up k a q (r + 1) (omega arith) g (omega arith)) refl l)

near_on : (t : Bool) (k n m : ℕ) → m ≤ n + 1 + k → cond t n m ≤ n + suc k
near_on true k n m h = omega arith
near_on false k n m h = omega arith

pub near : (k a n : ℕ) → next_from k a n ≤ n + k
unfolding next_from
near zero a n = omega arith
near (suc k) a n = near_on (eqb (n % a) 0) k n (next_from k a (n + 1)) (near k a (n + 1))

module _ (a n : ℕ) where
  pub align-none : a ≡ 0 → n ≡ aligned a n
  unfolding aligned next_from
  align-none e = rw e

  align-is' : (k : ℕ) → n % k ≡ 0 → n ≡ aligned k n
  unfolding aligned next_from
  align-is' zero e = refl
  align-is' (suc k) e = rw e

  pub align_is : n % a ≡ 0 → n ≡ aligned a n
  align_is e = align-is' a e

  pub align-up : (a ≡ 0 → ⊥) → (n % a ≡ 0 → ⊥) → n + (a - n % a) ≡ aligned a n
  unfolding aligned
  align-up z e =
      let h : n % a < a = mod-lt n (omega arith) in
      let d = div-add-mod' n a in
      let u = up a a (n / a) (n % a) (omega arith) h (omega arith) in
      let g : n + (a - n % a) ≡ n / a * a + a = omega arith in
      g ∙ sym u ∙ ap (λ (x : ℕ). next_from a a x) d

  next-turn : (t : Bool) → eqb (n % a) 0 ≡ t → (a ≡ 0 → ⊥) → n + (a - n % a) % a ≡ aligned a n
  next-turn true e z =
      let d = eqb-true (n % a) 0 e in
      let f : a - 0 ≡ a = omega arith in
      let g : n + 0 ≡ n = omega arith in
      rw (d, f, mod_self a, g) (align_is d)
  next-turn false e z =
      let d = eqb-false (n % a) 0 e in
      let h : n % a < a = mod-lt n (omega arith) in
      let l : a - n % a < a = omega arith in
      rw (mod-eq_of_lt l) (align-up z d)

  -- std's next multiple
  pub align-next : (a ≡ 0 → ⊥) → n + (a - n % a) % a ≡ aligned a n
  align-next z = next-turn (eqb (n % a) 0) refl z

  pub next-low : (a ≡ 0 → ⊥) → a < 256 → n < 2 ^ 63 → n + (a - n % a) % a < 2 ^ 64
  next-low z l h = let m : (a - n % a) % a < a = mod-lt (a - n % a) (omega arith) in omega arith

pub ruleset ups = (align-none, align-next, next-low, rules)

-- no address from n on that a divides is below `aligned a n`
least-turn : (t : Bool) (a n m k : ℕ) → eqb (n % a) 0 ≡ t → (n + 1 ≤ m → k ≤ m) → n ≤ m → m % a ≡ 0 → cond t n k ≤ m
least-turn true a n m k e ih h d = h
least-turn false a n m k e ih h d = ih (other (eqb n m) refl)
  where
    other : (t : Bool) → eqb n m ≡ t → n + 1 ≤ m
    other true f = absurd (eqb-false (n % a) 0 e (ap (λ (x : ℕ). x % a) (eqb-true n m f) ∙ d))
    other false f = omega (arith, eqb-false n m f)

least : (j a n m : ℕ) → n ≤ m → m % a ≡ 0 → next_from j a n ≤ m
unfolding next_from
least zero a n m h d = h
least (suc j) a n m h d = least-turn (eqb (n % a) 0) a n m (next_from j a (n + 1)) refl (λ g. least j a (n + 1) m g d) h d

pub aligned-least : (a n m : ℕ) → n ≤ m → m % a ≡ 0 → aligned a n ≤ m
unfolding aligned
aligned-least a n m h d = least a a n m h d

-- the alignment divides `aligned a n`
divides-turn : (t : Bool) (a n : ℕ) → 0 < a → eqb (n % a) 0 ≡ t → aligned a n % a ≡ 0
divides-turn true a n p e = let d = eqb-true (n % a) 0 e in rw (← align_is a n d) d
divides-turn false a n p e =
    let d = eqb-false (n % a) 0 e in
    let h : n % a < a = mod-lt n p in
    let m = div-add-mod' n a in
    let g : n + (a - n % a) ≡ n / a * a + a = omega arith in
    rw (← align-up a n (omega arith) d, g, mul-add-mod_self_right (n / a) a a, mod_self a)

pub aligned-divides : (a n : ℕ) → 0 < a → aligned a n % a ≡ 0
aligned-divides a n p = divides-turn (eqb (n % a) 0) a n p refl

-- and it is n or comes after it
from-turn : (t : Bool) (n m : ℕ) → n + 1 ≤ m → n ≤ cond t n m
from-turn true n m h = omega arith
from-turn false n m h = omega arith

from : (k a n : ℕ) → n ≤ next_from k a n
unfolding next_from
from zero a n = omega arith
from (suc k) a n = from-turn (eqb (n % a) 0) n (next_from k a (n + 1)) (from k a (n + 1))

pub aligned-from : (a n : ℕ) → n ≤ aligned a n
unfolding aligned
aligned-from a n = from a a n
