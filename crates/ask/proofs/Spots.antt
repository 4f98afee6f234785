-- What the loop over the bytes before a place keeps, and what each turn does.
use Prim.Native.Nat.{ℕ, suc, ◌+◌, ◌-◌, ◌<◌, ◌≤◌, min}
use native.Mathlib.Nat.{sub-zero, sub-eq-zero_of_le}
use native.Mathlib.Numerals.{add-one}
use native.Mathlib.Omega.{arith}
use mathlib.Core.Path.{◌≡◌, refl}
use mathlib.Core.List.{List, [], ◌∷◌}
use mathlib.Core.Bool.{Bool, true, false}
use borrow.Author.Tests.{ne_eqb, leb-true, leb-false}
use lib.Dec.{leb}
use borrow.Author.Rules.{rules}
use lib.ListN.{length, take, drop, get_or, drop_of_length-le}
use lib.Seq.{drop-cons, take-nil}
use Rattle.ask.specs.Spot.{line_ends, since_end, line_number, column_at}

-- the bytes from i on that stand before a place
abbrev rest : List ℕ → ℕ → ℕ → List ℕ
rest x place i = take (place - i) (drop i x)

pub record Counting (x : List ℕ) (place i line column : ℕ) : Type 0 where
  pub lines : line + line_ends (rest x place i) ≡ line_number x place
  pub columns : suc (since_end (column - 1) (rest x place i)) ≡ column_at x place
  pub line_low : line ≤ i + 1
  pub column_low : column ≤ i + 1
  pub some : 1 ≤ column

module _ (x : List ℕ) (place : ℕ) where
  pub counting-start : Counting x place 0 1 1
  unfolding line_number column_at
  counting-start =
      let e : rest x place 0 ≡ take place x = rw (sub-zero place) in
      record { lines = rw e (omega arith); columns = rw e; line_low = omega arith; column_low = omega arith; some = omega arith }

  module _ (i line column : ℕ) (q : Counting x place i line column) where
    ended : rest x place i ≡ [] → (line ≡ line_number x place) × (column ≡ column_at x place)
    unfolding line_ends since_end
    ended e =
        let l : line + 0 ≡ line_number x place = rw e at q.lines in
        let c : suc (column - 1) ≡ column_at x place = rw e at q.columns in
        (omega arith, omega (arith, q.some))

    placed : place ≤ i → rest x place i ≡ []
    placed h = rw (sub-eq-zero_of_le h)

    passed : length x ≤ i → rest x place i ≡ []
    passed h = rw (drop_of_length-le x h, take-nil)

    end-turn : (t : Bool) → leb place i ≡ t → min place (length x) ≤ i → rest x place i ≡ []
    end-turn true e h = placed (leb-true place i e)
    end-turn false e h = let l = leb-false place i e in passed (omega arith)

    -- m is where the loop ends
    pub counting-end : (m : ℕ) → m ≡ min place (length x) → m ≤ i → (line ≡ line_number x place) × (column ≡ column_at x place)
    counting-end m e h = ended (end-turn (leb place i) refl (omega arith))

    module _ (m : ℕ) (em : m ≡ min place (length x)) (lm : i < m) where
      h : i < length x
      h = omega arith

      g : i < place
      g = omega arith

      on : rest x place i ≡ get_or x i 0 ∷ rest x place (i + 1)
      on = let e : place - i ≡ suc (place - (i + 1)) = omega (arith, g) in rw (e, drop-cons x i 0 h, add-one i)

      pub counting-line : (n k : ℕ) → get_or x i 0 ≡ 10 → n ≡ line + 1 → k ≡ 1 → Counting x place (i + 1) n k
      unfolding line_ends since_end
      counting-line n k b u v =
          let l : line + suc (line_ends (rest x place (i + 1))) ≡ line_number x place = rw (on, b) at q.lines in
          let c : suc (since_end 0 (rest x place (i + 1))) ≡ column_at x place = rw (on, b) at q.columns in
          record { lines = omega arith; columns = rw v c; line_low = omega (arith, q.line_low); column_low = omega arith; some = omega arith }

      pub counting-column : (n k : ℕ) → (get_or x i 0 ≡ 10 → ⊥) → n ≡ line → k ≡ column + 1 → Counting x place (i + 1) n k
      unfolding line_ends since_end
      counting-column n k b u v =
          let l : line + line_ends (rest x place (i + 1)) ≡ line_number x place = rw (on, ne_eqb (get_or x i 0) 10 b) at q.lines in
          let c : suc (since_end (suc (column - 1)) (rest x place (i + 1))) ≡ column_at x place = rw (on, ne_eqb (get_or x i 0) 10 b) at q.columns in
          let s : k - 1 ≡ suc (column - 1) = omega (arith, q.some) in
          record { lines = omega arith; columns = rw s c; line_low = omega (arith, q.line_low); column_low = omega (arith, q.column_low); some = omega arith }

pub ruleset spots = (counting-start, counting-end, counting-line, counting-column, rules)
