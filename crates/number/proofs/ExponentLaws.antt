-- What follows an E, by the tests that the code makes.
use Prim.Native.Nat.{ℕ, ◌+◌, ◌-◌, ◌*◌, ◌<◌, ◌≤◌}
use native.Mathlib.Omega.{arith}
use mathlib.Core.Path.{◌≡◌, refl, sym, ◌∙◌, ap}
use mathlib.Core.List.{List, [], ◌∷◌}
use mathlib.Core.Bool.{Bool, true, false, cond, ◌&&◌, and-false}
use borrow.Author.Tests.{lt-leb, lt-ltb, le-ltb, ltb-true}
use borrow.Author.Rules.{rules}
use lib.Dec.{leb, ltb}
use lib.ListN.{length, take, drop, get_or}
use mir.Syntax.{w8}
use mir.Val.{Fits}
use Rattle.number.specs.Digits.{digit_of, value_on, all_digits}
use Rattle.number.specs.Decimal.{signs, minus, is_exponent, exponent_size}
use Rattle.number.specs.Told.{decimal_digit, exponent_in}
use Rattle.number.specs.declared.exponent.Exponent.{Exponent}
use Rattle.number.specs.declared.digits.NoForm.{NoForm}
use Rattle.std.specs.Prelude.{Result, Ok, Err, IsErr}
use Rattle.std.proofs.lemmas.List.{take_rest}

-- a digit, or none
pub digit-good : (b d : ℕ) → d ≡ digit_of b → d < 10 → Ok d ≡ decimal_digit b
unfolding decimal_digit
digit-good b d e h = rw (← e, lt-ltb d 10 h)

pub digit-bad : (b d : ℕ) → d ≡ digit_of b → 10 ≤ d → Err (record {}) ≡ decimal_digit b
unfolding decimal_digit
digit-bad b d e h = rw (← e, le-ltb d 10 h)

pub ruleset one-digit = (digit-good, digit-bad, rules)

-- what a digit was read as
read-turn : (t : Bool) (n d : ℕ) → ◌≡◌ {A = Result ℕ NoForm} (cond t (Ok n) (Err (record {}))) (Ok d) → (t ≡ true) × (n ≡ d)
read-turn true n d e = (refl, cc)
read-turn false n d e = absurd cc

bad-turn : (t : Bool) (n : ℕ) (x : NoForm) → ◌≡◌ {A = Result ℕ NoForm} (cond t (Ok n) (Err (record {}))) (Err x) → t ≡ false
bad-turn true n x e = absurd cc
bad-turn false n x e = refl

module _ (b : ℕ) (r : Result ℕ NoForm) (p : r ≡ decimal_digit b) where
  digit-read : (d : ℕ) → r ≡ Ok d → (ltb (digit_of b) 10 ≡ true) × (digit_of b ≡ d)
  unfolding decimal_digit
  digit-read d e = read-turn (ltb (digit_of b) 10) (digit_of b) d (sym p ∙ e)

  digit-unread : (x : NoForm) → r ≡ Err x → ltb (digit_of b) 10 ≡ false
  unfolding decimal_digit
  digit-unread x e = bad-turn (ltb (digit_of b) 10) (digit_of b) x (sym p ∙ e)

  pub digit-small : (d : ℕ) → r ≡ Ok d → d < 10
  digit-small d e = let q = digit-read d e in omega (arith, ltb-true (digit_of b) 10 q.0, q.1)

-- what the bytes l after a sign tell
told : Bool → List ℕ → Result Exponent NoForm
told down l = cond (all_digits 10 l && leb 1 (length l) && leb (length l) 2) (Ok (record { down = down; by = value_on 10 0 l })) (Err (record {}))

one-byte : (l : List ℕ) → 1 ≤ length l → length l < 2 → l ≡ get_or l 0 0 ∷ []
one-byte [] h g = absurd (omega arith)
one-byte (b ∷ []) h g = refl
one-byte (b ∷ c ∷ l) h g = absurd (omega arith)

two-bytes : (l : List ℕ) → 2 ≤ length l → length l < 3 → l ≡ get_or l 0 0 ∷ get_or l 1 0 ∷ []
two-bytes [] h g = absurd (omega arith)
two-bytes (b ∷ []) h g = absurd (omega arith)
two-bytes (b ∷ c ∷ []) h g = refl
two-bytes (b ∷ c ∷ d ∷ l) h g = absurd (omega arith)

-- what follows the sign, as the code cuts it off
module _ (s : List ℕ) (a : ℕ) (down : Bool) (ea : a ≡ signs s) (en : down ≡ minus s) where
  abbrev rest : List ℕ
  rest = take (length s - a) (drop a s)

  told_is : told down rest ≡ exponent_in s
  unfolding told exponent_in is_exponent exponent_size
  told_is = rw (take_rest s a, en, ea)

  pub exp-none : length rest < 1 → Err (record {}) ≡ exponent_in s
  unfolding told
  exp-none h = sym (rw (lt-leb 1 (length rest) h, and-false)) ∙ told_is

  pub exp-long : 3 ≤ length rest → Err (record {}) ≡ exponent_in s
  unfolding told
  exp-long h = sym (rw (lt-leb (length rest) 2 (omega arith), and-false)) ∙ told_is

  module _ (r : Result ℕ NoForm) (p : r ≡ decimal_digit (get_or rest 0 0)) where
    module _ (h : 1 ≤ length rest) (g : length rest < 2) where
      pub exp-first : (x : NoForm) → r ≡ Err x → Err (record {}) ≡ exponent_in s
      unfolding told all_digits
      exp-first x e = sym (ap (told down) (one-byte rest h g) ∙ rw (digit-unread (get_or rest 0 0) r p x e)) ∙ told_is

      pub exp-one : (d : ℕ) → r ≡ Ok d → Ok (record { down = down; by = d }) ≡ exponent_in s
      unfolding told all_digits value_on
      exp-one d e =
          let q = digit-read (get_or rest 0 0) r p d e in
          let z : 0 * 10 + d ≡ d = omega arith in
          sym (ap (told down) (one-byte rest h g) ∙ rw (q.0, q.1, z)) ∙ told_is

    module _ (h : 2 ≤ length rest) (g : length rest < 3) where
      pub exp-first-2 : (x : NoForm) → r ≡ Err x → Err (record {}) ≡ exponent_in s
      unfolding told all_digits
      exp-first-2 x e = sym (ap (told down) (two-bytes rest h g) ∙ rw (digit-unread (get_or rest 0 0) r p x e)) ∙ told_is

      module _ (d : ℕ) (e : r ≡ Ok d) (t : Result ℕ NoForm) (u : t ≡ decimal_digit (get_or rest 1 0)) where
        pub exp-second : (x : NoForm) → t ≡ Err x → Err (record {}) ≡ exponent_in s
        unfolding told all_digits
        exp-second x f = sym (ap (told down) (two-bytes rest h g) ∙ rw (digit-unread (get_or rest 1 0) t u x f, and-false)) ∙ told_is

        pub exp-two : (c : ℕ) → t ≡ Ok c → Ok (record { down = down; by = d * 10 + c }) ≡ exponent_in s
        unfolding told all_digits value_on
        exp-two c f =
            let q = digit-read (get_or rest 0 0) r p d e in
            let v = digit-read (get_or rest 1 0) t u c f in
            let z : 0 * 10 + d ≡ d = omega arith in
            sym (ap (told down) (two-bytes rest h g) ∙ rw (q.0, q.1, v.0, v.1, z)) ∙ told_is

pub ten-fits : (d : ℕ) → d < 10 → Fits w8 (d * 10)
ten-fits d h = record { fits = omega arith }

pub two-fit : (d c : ℕ) → d < 10 → c < 10 → Fits w8 (d * 10 + c)
two-fit d c h g = record { fits = omega arith }

-- a refusal that is handed on
pub handed : {A : Type 0} (r : Result A NoForm) → IsErr r → r ≡ Err (record {})
handed (Ok a) h = cc
handed (Err e) h = refl
