-- A run cut at its E, by the tests that the code makes.
use Prim.Native.Nat.{ℕ, ◌+◌, ◌-◌, ◌<◌, ◌≤◌}
use native.Mathlib.Nat.{zero-add}
use native.Mathlib.Numerals.{add-one}
use native.Mathlib.Omega.{arith}
use mathlib.Core.Path.{◌≡◌, refl, sym, ◌∙◌, ap}
use mathlib.Core.List.{List, [], ◌∷◌, ◌++◌}
use mathlib.Core.Bool.{Bool, true, false, cond, ◌&&◌, and-false}
use borrow.Author.Rules.{rules}
use lib.Dec.{leb, eqb}
use lib.ListN.{length, take, drop, get_or, drop_of_length-le}
use lib.Seq.{drop-cons}
use Rattle.number.specs.Answer.{Answer, given, refused}
use Rattle.number.specs.Digits.{leading, trailing, value_on, all_digits}
use Rattle.number.specs.Decimal.{Scaled, most_digits, most_after, signs, minus, lowest, made, is_exponent, exponent_size, point_moved, judged_decimal, moved_decimal, pointed, signed_by, plain_of, is_e, mantissa, from_e, with_exponent, decimal_of}
use Rattle.number.specs.Told.{exponent_in}
use Rattle.number.specs.declared.exponent.Exponent.{Exponent}
use Rattle.number.specs.declared.digits.NoForm.{NoForm}
use Rattle.std.specs.Prelude.{Option, Some, None, Result, Ok, Err}
use Rattle.std.proofs.lemmas.List.{take_rest, length-take-le}
use Rattle.number.proofs.Bytes.{left, left-on}
use Rattle.number.proofs.Forms.{judged-good, both-same}
use Rattle.number.proofs.Laws.{first-digits, made-form}
use Rattle.number.proofs.Exponents.{mantissa-all}
use Rattle.decimals.specs.Inner.{some_in, exponent_after, moved_by, made_by, how_of}

-- where the first E or e stands
pub record Standing (s : List ℕ) (i : ℕ) : Type 0 where
  pub place : i + length (mantissa (left s i)) ≡ length (mantissa s)

module _ (s : List ℕ) where
  pub stand-start : Standing s 0
  stand-start = record { place = zero-add (length (mantissa s)) }

  module _ (i : ℕ) (q : Standing s i) where
    stand-ends : mantissa (left s i) ≡ [] → i ≡ length (mantissa s)
    stand-ends e = omega (arith, q.place, ap length e)

    module _ (h : i < length s) {b : Bool} (e : b ≡ is_e (get_or s i 0)) where
      pub stand-here : b ≡ true → i ≡ length (mantissa s)
      unfolding mantissa
      stand-here q = stand-ends (rw (left-on s i h, sym e ∙ q))

      pub stand-on : b ≡ false → Standing s (i + 1)
      unfolding mantissa
      stand-on u =
          let o : mantissa (left s i) ≡ get_or s i 0 ∷ mantissa (left s (i + 1)) = rw (left-on s i h, sym e ∙ u) in
          record { place = omega (arith, q.place, ap length o) }

    pub stand-end : i ≤ length s → length s ≤ i → length s ≡ length (mantissa s)
    unfolding mantissa
    stand-end g h = let e : length s ≡ i = omega arith in e ∙ stand-ends (rw (drop_of_length-le s h))

pub ruleset stands = (stand-start, stand-here, stand-on, stand-end, rules)

-- the exponent behind it
module _ (s : List ℕ) (e : ℕ) where
  pub from-none : length s ≤ e → Ok None ≡ exponent_after (drop e s)
  unfolding exponent_after
  from-none h = rw (drop_of_length-le s h)

  module _ (h : e < length s) (r : Result Exponent NoForm) (q : r ≡ exponent_in (take (length s - (e + 1)) (drop (e + 1) s))) where
    from_is : some_in r ≡ exponent_after (drop e s)
    unfolding exponent_after
    from_is =
        let b : drop e s ≡ get_or s e 0 ∷ drop (e + 1) s = rw (add-one, drop-cons s e 0) in
        ap some_in (q ∙ ap exponent_in (take_rest s (e + 1))) ∙ sym (ap exponent_after b)

    pub from_some : (x : Exponent) → r ≡ Ok x → Ok (Some x) ≡ exponent_after (drop e s)
    from_some x g = sym (ap some_in g) ∙ from_is

    pub from-err : (x : NoForm) → r ≡ Err x → Err x ≡ exponent_after (drop e s)
    from-err x g = sym (ap some_in g) ∙ from_is

-- the bytes before the E, and those from it on
drop-turn : (t : Bool) (b : ℕ) (s : List ℕ) → from_e s ≡ drop (length (mantissa s)) s → cond t (b ∷ s) (from_e s) ≡ drop (length (cond t [] (b ∷ mantissa s))) (b ∷ s)
drop-turn true b s h = refl
drop-turn false b s h = h

from-drop : (s : List ℕ) → from_e s ≡ drop (length (mantissa s)) s
unfolding from_e mantissa
from-drop [] = refl
from-drop (b ∷ s) = drop-turn (is_e b) b s (from-drop s)

take-turn : (t : Bool) (b : ℕ) (s : List ℕ) → mantissa s ≡ take (length (mantissa s)) s → cond t [] (b ∷ mantissa s) ≡ take (length (cond t [] (b ∷ mantissa s))) (b ∷ s)
take-turn true b s h = refl
take-turn false b s h = ap (λ (x : List ℕ). b ∷ x) h

mantissa-take : (s : List ℕ) → mantissa s ≡ take (length (mantissa s)) s
unfolding mantissa
mantissa-take [] = refl
mantissa-take (b ∷ s) = take-turn (is_e b) b s (mantissa-take s)

few-turn : (t : Bool) (b : ℕ) (l : List ℕ) → length (mantissa l) ≤ length l → length (cond t [] (b ∷ mantissa l)) ≤ length (b ∷ l)
few-turn true b l h = omega arith
few-turn false b l h = omega arith

mantissa-most : (l : List ℕ) → length (mantissa l) ≤ length l
unfolding mantissa
mantissa-most [] = omega arith
mantissa-most (b ∷ l) = few-turn (is_e b) b l (mantissa-most l)

mantissa-few : (s : List ℕ) (e : ℕ) → e ≡ length (mantissa s) → e ≤ length s
mantissa-few s e q = rw q (mantissa-most s)

pub mantissa-cut : (s : List ℕ) (e : ℕ) → e ≡ length (mantissa s) → e ≡ length (take e s)
mantissa-cut s e q = sym (length-take-le e s (mantissa-few s e q))

-- two ways to make a number that agree on digits agree on a run
pointed-same : (p q : List ℕ → List ℕ → Answer Scaled) (i r : List ℕ) → ((f : List ℕ) → all_digits 10 f ≡ true → p i f ≡ q i f) → pointed p i r ≡ pointed q i r
unfolding pointed all_digits
pointed-same p q i [] h = h [] refl
pointed-same p q i (b ∷ f) h = by-test (all_digits 10 f) refl where
  by-test : (t : Bool) → all_digits 10 f ≡ t → cond (eqb b 46 && t && leb 1 (length f)) (p i f) (refused 2) ≡ cond (eqb b 46 && t && leb 1 (length f)) (q i f) (refused 2)
  by-test true o = ap (λ (x : Answer Scaled). cond (eqb b 46 && true && leb 1 (length f)) x (refused 2)) (h f o)
  by-test false o = rw and-false

signed_same : (p q : Bool → List ℕ → List ℕ → Answer Scaled) (s : List ℕ) → ((neg : Bool) (i f : List ℕ) → all_digits 10 i ≡ true → all_digits 10 f ≡ true → p neg i f ≡ q neg i f)
    → signed_by p s ≡ signed_by q s
unfolding signed_by
signed_same p q s h =
    let i = leading (drop (signs s) s) in
    pointed-same (p (minus s)) (q (minus s)) i (trailing (drop (signs s) s)) (λ f g. h (minus s) i f (first-digits (drop (signs s) s)) g)

-- without an exponent: ten digits at most make a number of ten digits at most
plain_turn : (neg : Bool) (i f : List ℕ) → all_digits 10 i ≡ true → all_digits 10 f ≡ true → (a b c : Bool) → leb 1 (length i) ≡ a → leb (length i + length f) most_digits ≡ b → leb (length f) most_after ≡ c
    → cond a (cond (b && c) (judged_decimal (lowest neg (value_on 10 0 (i ++ f)) (length f))) (refused 2)) (refused 2)
    ≡ cond (a && b && c) (given (lowest neg (value_on 10 0 (i ++ f)) (length f))) (refused 2)
unfolding made
plain_turn neg i f g h true true true oa ob oc =
    let d = lowest neg (value_on 10 0 (i ++ f)) (length f) in
    let w : given d ≡ made neg i f = rw (oa, ob, oc) in
    let k = made-form d neg i g f h w in
    sym (judged-good d k.whole_most k.tens_most)
plain_turn neg i f g h true true false oa ob oc = refl
plain_turn neg i f g h true false c oa ob oc = refl
plain_turn neg i f g h false b c oa ob oc = refl

how-plain : (neg : Bool) (i f : List ℕ) → all_digits 10 i ≡ true → all_digits 10 f ≡ true → how_of None neg i f ≡ made neg i f
unfolding how_of made_by made
how-plain neg i f g h =
    plain_turn neg i f g h (leb 1 (length i)) (leb (length i + length f) most_digits) (leb (length f) most_after) refl refl refl

-- with one
how-turn : (neg : Bool) (i f x : List ℕ) (a : Bool) → leb 1 (length i) ≡ a
    → cond a (made_by (Some (record { down = minus x; by = exponent_size x })) neg (value_on 10 0 (i ++ f)) (length i) (length f)) (refused 2)
    ≡ cond (a && true) (judged_decimal (point_moved neg (value_on 10 0 (i ++ f)) (length f) x)) (refused 2)
unfolding made_by moved_by point_moved
how-turn neg i f x true oa = refl
how-turn neg i f x false oa = refl

how-moved : (x : List ℕ) → is_exponent x ≡ true → (neg : Bool) (i f : List ℕ) → how_of (Some (record { down = minus x; by = exponent_size x })) neg i f ≡ moved_decimal x neg i f
unfolding how_of moved_decimal
how-moved x e neg i f = rw e (how-turn neg i f x (leb 1 (length i)) refl)

-- what is no exponent is refused with any digits before it
pointed-bad : (x : List ℕ) → is_exponent x ≡ false → (neg : Bool) (i r : List ℕ) → refused 2 ≡ pointed (moved_decimal x neg) i r
unfolding pointed moved_decimal
pointed-bad x e neg i [] = rw (e, and-false)
pointed-bad x e neg i (b ∷ f) =
    both-same (eqb b 46 && all_digits 10 f && leb 1 (length f)) (moved_decimal x neg i f) (refused 2) (refused 2) (rw (e, and-false)) refl

signed-bad : (x s : List ℕ) → is_exponent x ≡ false → refused 2 ≡ signed_by (moved_decimal x) s
unfolding signed_by
signed-bad x s e = pointed-bad x e (minus s) (leading (drop (signs s) s)) (trailing (drop (signs s) s))

-- the digits before the E by what follows it, or 2
abbrev by_exponent : Result (Option Exponent) NoForm → List ℕ → Answer Scaled
by_exponent (Ok x) m = signed_by (how_of x) m
by_exponent (Err e) m = refused 2

exponent-turn : (s x : List ℕ) (t : Bool) → is_exponent x ≡ t
    → by_exponent (some_in (cond t (Ok (record { down = minus x; by = exponent_size x })) (Err (record {})))) (mantissa s) ≡ signed_by (moved_decimal x) (mantissa s)
exponent-turn s x true e =
    signed_same (how_of (Some (record { down = minus x; by = exponent_size x }))) (moved_decimal x) (mantissa s) (λ neg i f g h. how-moved x e neg i f)
exponent-turn s x false e = signed-bad x (mantissa s) e

decimal-turn : (s r : List ℕ) → from_e s ≡ r → by_exponent (exponent_after r) (mantissa s) ≡ with_exponent s r
unfolding exponent_after exponent_in with_exponent plain_of
decimal-turn s [] o = signed_same (how_of None) made (mantissa s) how-plain ∙ ap (signed_by made) (mantissa-all s o)
decimal-turn s (b ∷ x) o = exponent-turn s x (is_exponent x) refl

module _ (s : List ℕ) (e : ℕ) (ee : e ≡ length (mantissa s)) (x : Result (Option Exponent) NoForm) (ex : x ≡ exponent_after (drop e s)) where
  decimal-by : by_exponent x (take e s) ≡ decimal_of s
  unfolding decimal_of
  decimal-by =
      let m : take e s ≡ mantissa s = ap (λ (n : ℕ). take n s) ee ∙ sym (mantissa-take s) in
      let f : drop e s ≡ from_e s = ap (λ (n : ℕ). drop n s) ee ∙ sym (from-drop s) in
      ap (by_exponent x) m ∙ ap (λ (y : Result (Option Exponent) NoForm). by_exponent y (mantissa s)) (ex ∙ ap exponent_after f) ∙ decimal-turn s (from_e s) refl

  pub decimal-is : (y : Option Exponent) (r : Answer Scaled) → x ≡ Ok y → r ≡ signed_by (how_of y) (take e s) → r ≡ decimal_of s
  decimal-is y r g q = q ∙ ap (λ (z : Result (Option Exponent) NoForm). by_exponent z (take e s)) (sym g) ∙ decimal-by

  pub decimal-none : (y : NoForm) → x ≡ Err y → refused 2 ≡ decimal_of s
  decimal-none y g = ap (λ (z : Result (Option Exponent) NoForm). by_exponent z (take e s)) (sym g) ∙ decimal-by
