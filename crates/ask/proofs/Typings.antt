-- What a person types, by the tests that the code makes.
use Prim.Native.Nat.{ℕ, ◌-◌, ◌<◌, ◌≤◌, ◌^◌}
use native.Mathlib.Omega.{arith}
use mathlib.Core.Path.{◌≡◌, refl, sym, ◌∙◌, ap}
use mathlib.Core.List.{List, [], ◌∷◌}
use mathlib.Core.Bool.{Bool, true, false, cond, ◌&&◌, and-false}
use borrow.Author.Tests.{eq-eqb, ne_eqb, lt-leb, leb-true}
use borrow.Author.Rules.{rules}
use lib.Dec.{leb}
use lib.IntN.{ℤ}
use lib.ListN.{length, get_or, take, drop, length-drop}
use lib.Seq.{take_all}
use lib.Signed.{mag}
use mir.Syntax.{w64}
use mir.Val.{to_z, of_z}
use mir.Facts.{to_z-of_z}
use Rattle.number.specs.Answer.{Answer, given, refused}
use Rattle.number.specs.Digits.{digit_of, value_on, all_digits}
use Rattle.number.specs.Decimal.{signs, minus}
use Rattle.number.specs.Whole.{whole_from, whole_of}
use Rattle.number.specs.Told.{told_whole}
use Rattle.number.specs.declared.digits.NoForm.{NoForm}
use Rattle.std.specs.Prelude.{Some, None, Result, Ok, Err}
use Rattle.std.specs.Result.{result_ok}
use Rattle.number.specs.Signed.{signed_of, most_signed}
use Rattle.ask.specs.Typed.{part_of, with_sign, raw_typed}

-- ---- a part's letter
module _ (s : List ℕ) where
  pub part-long : (length s ≡ 1 → ⊥) → 3 ≡ part_of s
  unfolding part_of
  part-long h = rw (ne_eqb (length s) 1 h)

  module _ (h : length s ≡ 1) where
    pub part-x : get_or s 0 0 ≡ 120 → 0 ≡ part_of s
    unfolding part_of
    part-x e = rw (eq-eqb (length s) 1 h, e)

    pub part-y : get_or s 0 0 ≡ 121 → 1 ≡ part_of s
    unfolding part_of
    part-y e = rw (eq-eqb (length s) 1 h, e)

    pub part-v : get_or s 0 0 ≡ 118 → 2 ≡ part_of s
    unfolding part_of
    part-v e = rw (eq-eqb (length s) 1 h, e)

    pub part-other : (get_or s 0 0 ≡ 120 → ⊥) → (get_or s 0 0 ≡ 121 → ⊥) → (get_or s 0 0 ≡ 118 → ⊥) → 3 ≡ part_of s
    unfolding part_of
    part-other x y v = rw (eq-eqb (length s) 1 h, ne_eqb (get_or s 0 0) 120 x, ne_eqb (get_or s 0 0) 121 y, ne_eqb (get_or s 0 0) 118 v)

pub ruleset part-letters = (part-long, part-x, part-y, part-v, part-other, rules)

-- ---- decimal digits: a run whose second byte is no `x` is no `0x` run
second-x : (s : List ℕ) → 2 ≤ length s → get_or s 1 0 ≡ 120 → all_digits 10 s ≡ false
unfolding all_digits digit_of
second-x [] h e = absurd (omega arith)
second-x (a ∷ []) h e = absurd (omega arith)
second-x (a ∷ b ∷ s) h e = rw (e, and-false)

module _ (s : List ℕ) (most : ℕ) where
  pub digits-x : 2 ≤ length s → get_or s 1 0 ≡ 120 → refused 2 ≡ whole_from 10 most s
  unfolding whole_from
  digits-x h e = rw (second-x s h e)

  module _ (r : Answer ℕ) (q : r ≡ whole_of most s) where
    pub digits-short : length s < 2 → r ≡ whole_from 10 most s
    unfolding whole_of
    digits-short h = rw (lt-leb 2 (length s) h) at q

    pub digits-other : 2 ≤ length s → (get_or s 1 0 ≡ 120 → ⊥) → r ≡ whole_from 10 most s
    unfolding whole_of
    digits-other h n = rw (ne_eqb (get_or s 1 0) 120 n, and-false) at q

pub ruleset digit-runs = (digits-x, digits-short, digits-other, rules)

-- ---- a size with its sign
most-turn : (a b c : Bool) (v n : ℕ) → (b ≡ true → v ≤ n) → (m : ℕ) → given m ≡ cond (a && b && c) (given v) (refused 2) → m ≤ n
most-turn true true true v n f m e = let z : m ≡ v = cc in omega (arith, f refl)
most-turn true true false v n f m e = let z : ◌≡◌ {A = ℕ} 0 1 = cc in absurd (omega arith)
most-turn true false c v n f m e = let z : ◌≡◌ {A = ℕ} 0 1 = cc in absurd (omega arith)
most-turn false b c v n f m e = let z : ◌≡◌ {A = ℕ} 0 1 = cc in absurd (omega arith)

pub at_most : (most m : ℕ) (ds : List ℕ) → given m ≡ whole_from 10 most ds → m ≤ most
unfolding whole_from
at_most most m ds e = most-turn (all_digits 10 ds) (leb (value_on 10 0 ds) most) (leb 1 (length ds)) (value_on 10 0 ds) most (leb-true (value_on 10 0 ds) most) m e

-- the digits after the sign, to the end of the word
pub size_is : (s : List ℕ) (neg : Bool) (at most : ℕ) (r : Answer ℕ) → at ≡ signs s → most ≡ most_signed neg → r ≡ whole_from 10 most (take (length s - at) (drop at s)) → r ≡ whole_from 10 (most_signed neg) (drop (signs s) s)
size_is s neg at most r b c e =
    let l : length (drop at s) ≤ length s - at = omega (arith, length-drop at s) in
    let d : take (length s - at) (drop at s) ≡ drop at s = take_all (length s - at) (drop at s) l in
    rw (← b, ← c, ← d) e

pub ruleset sizes = (size_is, rules)

-- a number that there is, or none
pub ok-some : (r : Result ℕ NoForm) (n : ℕ) → result_ok r ≡ Some n → r ≡ Ok n
ok-some (Ok m) n e = cc
ok-some (Err x) n e = cc

pub ok-none : (r : Result ℕ NoForm) → result_ok r ≡ None → r ≡ Err (record {})
ok-none (Ok m) e = cc
ok-none (Err x) e = refl

-- r is what `size_of` gave
module _ (s : List ℕ) (neg : Bool) (a : neg ≡ minus s) (r : Result ℕ NoForm) (e : told_whole r ≡ whole_from 10 (most_signed neg) (drop (signs s) s)) where
  typed : raw_typed s ≡ with_sign neg (told_whole r)
  unfolding raw_typed
  typed = rw (← a, e)

  pub raw-none : (k : NoForm) → r ≡ Err k → refused 15 ≡ raw_typed s
  raw-none k h = sym (typed ∙ ap (λ (x : Result ℕ NoForm). with_sign neg (told_whole x)) h)

  module _ (n : ℕ) (h : r ≡ Ok n) where
    pub raw-low : n ≤ most_signed neg
    raw-low = at_most (most_signed neg) n (drop (signs s) s) (sym (ap told_whole h) ∙ e)

    pub raw-given : (z : ℤ) → mag z < 2 ^ 63 → z ≡ signed_of neg n → given (to_z w64 (of_z w64 z)) ≡ raw_typed s
    raw-given z l q = ap given (to_z-of_z {w = w64} (record { sfits = l }) ∙ q) ∙ sym (typed ∙ ap (λ (x : Result ℕ NoForm). with_sign neg (told_whole x)) h)

pub ruleset raws = (raw-low, rules)
