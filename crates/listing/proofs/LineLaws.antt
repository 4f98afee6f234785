-- Values and lines, put piece by piece.
use Prim.Native.Nat.{ℕ}
use mathlib.Core.Path.{◌≡◌}
use mathlib.Core.List.{List, [], ◌∷◌, ◌++◌}
use borrow.Author.Rules.{rules}
use borrow.Author.Tests.{eq-eqb, ne_eqb}
use lib.IntN.{ℤ, nat_abs}
use Rattle.print.specs.Print.{figures_of, figures, signed, slice}
use Rattle.print.specs.Put.{Put}
use Rattle.print.proofs.PutLaws.{put_then}
use Rattle.listing.specs.Print.{physical, letter, line}

-- ---- values

module _ (part : ℕ) where
  pub letter-x : part ≡ 0 → 120 ≡ letter part
  letter-x h = rw (eq-eqb part 0 h)

  pub letter-y : (part ≡ 0 → ⊥) → part ≡ 1 → 121 ≡ letter part
  letter-y g h = rw (ne_eqb part 0 g, eq-eqb part 1 h)

  pub letter-v : (part ≡ 0 → ⊥) → (part ≡ 1 → ⊥) → 118 ≡ letter part
  letter-v g h = rw (ne_eqb part 0 g, ne_eqb part 1 h)

pub ruleset letters = (letter-x, letter-y, letter-v, rules)

module _ {at e f r : ℕ} {out o p left : List ℕ} where
  -- m and c are n and d as a call is given them
  pub fraction-put : {n d : ℤ} (m c : ℤ) → m ≡ n → c ≡ d → Put at (signed m) out e o → Put e (47 ∷ []) o f p → Put f (signed c) p r left → Put at (signed n ++ (47 ∷ signed d)) out r left
  fraction-put m c g h a b z = rw (← g, ← h) (put_then a (put_then b z))

pub ruleset fractions = (fraction-put, rules)

-- m and c are first and second as a call is given them
module _ (x : List ℕ) (state : ℕ) (first second m c : ℤ) (g : m ≡ first) (h : c ≡ second) {at r : ℕ} {out left : List ℕ} where
  pub value-number : state ≡ 1 → Put at (signed m ++ (47 ∷ signed c)) out r left → Put at (physical x state first second) out r left
  unfolding physical
  value-number e p = rw (eq-eqb state 1 e, ← g, ← h) p

  pub value-text : (a b : ℕ) → (state ≡ 1 → ⊥) → state ≡ 2 → a ≡ nat_abs m → b ≡ nat_abs c → Put at (slice x a b) out r left → Put at (physical x state first second) out r left
  unfolding physical
  value-text a b n e u v p = rw (ne_eqb state 1 n, eq-eqb state 2 e, ← g, ← h, ← u, ← v) p

pub value_none : (x : List ℕ) (state : ℕ) (first second : ℤ) {at r : ℕ} {out left : List ℕ} → (state ≡ 1 → ⊥) → (state ≡ 2 → ⊥) → Put at (45 ∷ []) out r left → Put at (physical x state first second) out r left
unfolding physical
value_none x state first second n e p = rw (ne_eqb state 1 n, ne_eqb state 2 e) p

pub ruleset values = (value-number, value-text, value_none, rules)

-- ---- lines

module _ {at b c d r : ℕ} {out o p q left : List ℕ} where
  pub index-put : (l part index : ℕ) → l ≡ letter part → Put at (9 ∷ []) out b o → Put b (l ∷ []) o c p → Put c (9 ∷ []) p d q → Put d (figures_of 20 index) q r left
      → Put at (9 ∷ letter part ∷ 9 ∷ figures index) out r left
  index-put l part index e u v w z = rw (← e) (put_then u (put_then v (put_then w z)))

  pub values-put : {e : ℕ} {s : List ℕ} (x : List ℕ) (state : ℕ) (raw first second k m n : ℤ) → k ≡ raw → m ≡ first → n ≡ second
      → Put at (9 ∷ []) out b o → Put b (signed k) o c p → Put c (9 ∷ []) p d q → Put d (physical x state m n) q e s → Put e (10 ∷ []) s r left
      → Put at (9 ∷ signed raw ++ (9 ∷ physical x state first second ++ (10 ∷ []))) out r left
  values-put x state raw first second k m n f g h u v w y z = rw (← f, ← g, ← h) (put_then u (put_then v (put_then w (put_then y z))))

module _ {at b c r : ℕ} {out o p left : List ℕ} where
  pub line-put : (x : List ℕ) (a e part index state : ℕ) (raw first second k m n : ℤ) → k ≡ raw → m ≡ first → n ≡ second
      → Put at (slice x a e) out b o → Put b (9 ∷ letter part ∷ 9 ∷ figures index) o c p
      → Put c (9 ∷ signed k ++ (9 ∷ physical x state m n ++ (10 ∷ []))) p r left
      → Put at (line x (slice x a e) part index raw (physical x state first second)) out r left
  unfolding line
  line-put x a e part index state raw first second k m n f g h u v w = rw (← f, ← g, ← h) (put_then u (put_then v w))

pub ruleset lines = (index-put, values-put, line-put, rules)
