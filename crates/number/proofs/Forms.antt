-- Signs, the smallest power of ten, and what follows the first digits, by the tests that the code makes.
use Prim.Native.Nat.{ℕ, zero, suc, ◌+◌, ◌*◌, ◌-◌, ◌/◌, ◌%◌, ◌<◌, ◌≤◌}
use native.Mathlib.Omega.{arith}
use mathlib.Core.Path.{◌≡◌, refl, ◌∙◌, ap}
use mathlib.Core.List.{List, [], ◌∷◌, ◌++◌}
use mathlib.Core.Bool.{Bool, true, false, not, cond, ◌&&◌, and-false}
use borrow.Author.Tests.{le-leb, lt-leb, eq-eqb, ne_eqb}
use borrow.Author.Rules.{rules}
use lib.Dec.{eqb, ltb}
use lib.ListN.{length, drop, get_or}
use mir.Syntax.{w32}
use mir.Val.{Fits}
use Rattle.number.specs.Answer.{Answer, given, refused}
use Rattle.number.specs.Digits.{digit_of, leading, trailing, value_on, all_digits}
use Rattle.number.specs.Decimal.{Scaled, most_whole, most_after, signs, minus, lowest, judged_decimal}
use Rattle.number.specs.Told.{tenths}

pub none_first : (s : List ℕ) → length s < 1 → get_or s 0 0 ≡ 0
none_first [] h = refl
none_first (b ∷ s) h = absurd (omega arith)

module _ (s : List ℕ) where
  pub minus-none : length s < 1 → false ≡ minus s
  unfolding minus
  minus-none h = rw (none_first s h)

  pub minus_is : get_or s 0 0 ≡ 45 → true ≡ minus s
  unfolding minus
  minus_is h = rw h

  pub minus-other : (get_or s 0 0 ≡ 45 → ⊥) → false ≡ minus s
  unfolding minus
  minus-other h = rw (ne_eqb (get_or s 0 0) 45 h)

  pub signs-none : length s < 1 → 0 ≡ signs s
  unfolding signs
  signs-none h = rw (none_first s h)

  pub signs-plus : get_or s 0 0 ≡ 43 → 1 ≡ signs s
  unfolding signs
  signs-plus h = rw h

  pub signs-minus : get_or s 0 0 ≡ 45 → 1 ≡ signs s
  unfolding signs
  signs-minus h = rw h

  pub signs-other : (get_or s 0 0 ≡ 43 → ⊥) → (get_or s 0 0 ≡ 45 → ⊥) → 0 ≡ signs s
  unfolding signs
  signs-other h g = rw (ne_eqb (get_or s 0 0) 43 h, ne_eqb (get_or s 0 0) 45 g)

pub ruleset sign-bytes = (minus-none, minus_is, minus-other, signs-none, signs-plus, signs-minus, signs-other, rules)

-- "at most 10 digits and at most 6 after the point; otherwise still 2"
module _ (d : Scaled) where
  pub judged-good : d.whole ≤ most_whole → d.tens ≤ most_after → given d ≡ judged_decimal d
  unfolding judged_decimal
  judged-good h g = rw (le-leb d.whole most_whole h, le-leb d.tens most_after g)

  pub judged-wide : most_whole < d.whole → refused 2 ≡ judged_decimal d
  unfolding judged_decimal
  judged-wide h = rw (lt-leb d.whole most_whole h)

  pub judged-long : most_after < d.tens → refused 2 ≡ judged_decimal d
  unfolding judged_decimal
  judged-long h = rw (lt-leb d.tens most_after h, and-false)

pub tens-fit : (k : ℕ) → k ≤ most_after → Fits w32 k
tens-fit k h = record { fits = omega arith }

pub ruleset judges = (judged-good, judged-wide, judged-long, tens-fit, rules)

module _ (neg : Bool) where
  pub lowest-at : (n t : ℕ) → (n % 10 ≡ 0 → ⊥) → 0 < t → tenths neg n t ≡ lowest neg n t
  unfolding lowest
  lowest-at n zero e h = absurd (omega arith)
  lowest-at n (suc t) e h = rw (ne_eqb (n % 10) 0 e)

  pub lowest-on : (n t : ℕ) → n % 10 ≡ 0 → 0 < t → lowest neg (n / 10) (t - 1) ≡ lowest neg n t
  unfolding lowest
  lowest-on n zero e h = absurd (omega arith)
  lowest-on n (suc t) e h = let p : suc t - 1 ≡ t = omega arith in rw (p, eq-eqb (n % 10) 0 e)

  pub lowest-end : (n t : ℕ) → t ≤ 0 → tenths (neg && not (eqb n 0)) n 0 ≡ lowest neg n t
  unfolding lowest
  lowest-end n zero h = refl
  lowest-end n (suc t) h = absurd (omega arith)

  -- k zeros are dropped
  module _ (n t m k : ℕ) (q : lowest neg m (t - k) ≡ lowest neg n t) where
    pub low-stop : (r : Answer Scaled) → (m % 10 ≡ 0 → ⊥) → k < t → r ≡ judged_decimal (tenths neg m (t - k)) → r ≡ judged_decimal (lowest neg n t)
    low-stop r e h p = p ∙ ap judged_decimal (lowest-at m (t - k) e (omega arith) ∙ q)

    pub low-on : m % 10 ≡ 0 → k < t → lowest neg (m / 10) (t - (k + 1)) ≡ lowest neg n t
    low-on e h =
        let p : t - (k + 1) ≡ t - k - 1 = omega arith in
        rw p (lowest-on m (t - k) e (omega arith)) ∙ q

    pub low_end : (r : Answer Scaled) → t ≤ k → r ≡ judged_decimal (tenths (neg && not (eqb m 0)) m 0) → r ≡ judged_decimal (lowest neg n t)
    low_end r h p = p ∙ ap judged_decimal (lowest-end m (t - k) (omega arith) ∙ q)

pub ruleset lows = (low-stop, low-on, low_end, rules)

-- leading and trailing digits
rest-turn : (t : Bool) (b : ℕ) (l : List ℕ) → trailing l ≡ drop (length (leading l)) l → cond t (trailing l) (b ∷ l) ≡ drop (length (cond t (b ∷ leading l) [])) (b ∷ l)
rest-turn true b l e = e
rest-turn false b l e = refl

pub rest-drop : (l : List ℕ) → trailing l ≡ drop (length (leading l)) l
unfolding trailing leading
rest-drop [] = refl
rest-drop (b ∷ l) = rest-turn (ltb (digit_of b) 10) b l (rest-drop l)

some_turn : (t : Bool) (b : ℕ) (l m : List ℕ) → length m ≤ length l → length (cond t (b ∷ m) []) ≤ length (b ∷ l)
some_turn true b l m h = omega arith
some_turn false b l m h = omega arith

pub some_first : (l : List ℕ) → length (leading l) ≤ length l
unfolding leading
some_first [] = omega arith
some_first (b ∷ l) = some_turn (ltb (digit_of b) 10) b l (leading l) (some_first l)

full-turn : (t : Bool) (b : ℕ) (l m : List ℕ) (a : Bool) → (a ≡ true → m ≡ l) → (t && a) ≡ true → cond t (b ∷ m) [] ≡ b ∷ l
full-turn true b l m a ih e = ap (λ (x : List ℕ). b ∷ x) (ih e)
full-turn false b l m a ih e = let z : ◌≡◌ {A = ℕ} 0 1 = cc in absurd (omega arith)

pub full : (l : List ℕ) → all_digits 10 l ≡ true → leading l ≡ l
unfolding all_digits leading
full [] e = refl
full (b ∷ l) e = full-turn (ltb (digit_of b) 10) b l (leading l) (all_digits 10 l) (full l) e

long-turn : (t : Bool) (b : ℕ) (l m : List ℕ) (a : Bool) → (length l ≤ length m → a ≡ true) → length (b ∷ l) ≤ length (cond t (b ∷ m) []) → (t && a) ≡ true
long-turn true b l m a ih h = ih (omega arith)
long-turn false b l m a ih h = absurd (omega arith)

-- as many digits as bytes: all are digits
pub long : (l : List ℕ) → length l ≤ length (leading l) → all_digits 10 l ≡ true
unfolding all_digits leading
long [] h = refl
long (b ∷ l) h = long-turn (ltb (digit_of b) 10) b l (leading l) (all_digits 10 l) (long l) h

pub joined : (n : ℕ) (i f : List ℕ) → value_on 10 (value_on 10 n i) f ≡ value_on 10 n (i ++ f)
unfolding value_on
joined n [] f = refl
joined n (b ∷ i) f = joined (n * 10 + digit_of b) i f

pub both-same : (t : Bool) (a b x : Answer Scaled) → x ≡ a → x ≡ b → x ≡ cond t a b
both-same true a b x p q = p
both-same false a b x p q = q
