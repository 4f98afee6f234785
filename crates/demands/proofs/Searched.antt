-- "The search for a name stops at the first object that bears it.": what the search finds bears the name and none before it does; where it finds
-- nothing, none does.
use Prim.Native.Nat.{ℕ, zero, suc, ◌+◌, ◌≤◌, ◌<◌}
use mathlib.Core.Path.{◌≡◌, refl, sym, subst}
use mathlib.Core.List.{List}
use mathlib.Core.Bool.{Bool, true, false, cond, ◌&&◌}
use native.Mathlib.Omega.{arith}
use borrow.Author.Tests.{eqb-true, eqb-false}
use lib.Dec.{eqb}
use lib.ListN.{length}
use Rattle.text.specs.Bytes.{same_part}
use Rattle.number.specs.Answer.{given, refused}
use Rattle.tables.specs.Form.{object_section, name_cell, name_past_cell, Tables, tables_in}
use Rattle.tables.specs.Rule.{keeps_rule}
use Rattle.tables.specs.Sizes.{sizes_fit}
use Rattle.look.specs.Calls.{Lent, checked, search_from, searched}
use Rattle.list.proofs.Writes.{never, same-given}

module _ (x : List ℕ) (T : Tables) (w : List ℕ) where
  -- object i bears the name
  abbrev pub bears : ℕ → Bool
  bears i = same_part x (T.slots object_section i name_cell) (T.slots object_section i name_past_cell) w 0 (length w)

  -- k is the first object from i on, of f, that bears the name
  pub record First (f i k : ℕ) : Type 0 where
    pub from : i ≤ k
    pub below : k < i + f
    pub borne : bears k ≡ true
    pub alone : (j : ℕ) → i ≤ j → j < k → bears j ≡ false

  -- object i does not bear it, and those after it do not
  one_more_lem : (i m : ℕ) → bears i ≡ false → ((j : ℕ) → suc i ≤ j → j < m → bears j ≡ false) → (j : ℕ) → i ≤ j → j < m → bears j ≡ false
  one_more_lem i m h g j p q = by-test (eqb j i) refl
    where
      by-test : (b : Bool) → eqb j i ≡ b → bears j ≡ false
      by-test true e = subst (λ (n : ℕ). bears n ≡ false) (sym (eqb-true j i e)) h
      by-test false e = let d = eqb-false j i e in g j (omega (arith, d)) q

  pub search-first : (f i k : ℕ) → search_from f x T w i ≡ suc k → First f i k
  unfolding search_from
  search-first zero i k e = absurd (omega (arith, e))
  search-first (suc f) i k e = by-test (search-first f (suc i) k) (bears i) refl e
    where
      by-test : (search_from f x T w (suc i) ≡ suc k → First f (suc i) k) → (b : Bool) → bears i ≡ b → cond b (suc i) (search_from f x T w (suc i)) ≡ suc k → First (suc f) i k
      by-test g true h u =
          let s : k ≡ i = omega (arith, u) in
          record { from = omega (arith, s); below = omega (arith, s); borne = subst (λ (n : ℕ). bears n ≡ true) (sym s) h; alone = λ j p q. absurd (omega (arith, s, p, q)) }
      by-test g false h u =
          let r = g u in
          record { from = omega (arith, r.from); below = omega (arith, r.below); borne = r.borne; alone = one_more_lem i k h r.alone }

  pub search-none : (f i : ℕ) → search_from f x T w i ≡ 0 → (j : ℕ) → i ≤ j → j < i + f → bears j ≡ false
  unfolding search_from
  search-none zero i e j p q = absurd (omega (arith, p, q))
  search-none (suc f) i e j p q = by-test (search-none f (suc i)) (bears i) refl e
    where
      by-test : (search_from f x T w (suc i) ≡ 0 → (n : ℕ) → suc i ≤ n → n < suc i + f → bears n ≡ false) → (b : Bool) → bears i ≡ b
          → cond b (suc i) (search_from f x T w (suc i)) ≡ 0 → bears j ≡ false
      by-test g true h u = absurd (omega (arith, u))
      by-test g false h u = one_more_lem i (i + suc f) h (λ n a b. g u n a (omega (arith, b))) j p q

-- ---- the call
module _ (x t w : List ℕ) (l : Lent) where
  answered : (n : ℕ) → searched x t l w ≡ given n → search_from ((tables_in t).counts object_section) x (tables_in t) w 0 ≡ n
  unfolding searched checked
  answered n = go (sizes_fit l.text l.image l.base (length t) && true) (keeps_rule l.text l.image t)
    where
      go : (a b : Bool) → cond a (cond b (given (search_from ((tables_in t).counts object_section) x (tables_in t) w 0)) (refused 22)) (refused 20) ≡ given n → search_from ((tables_in t).counts object_section) x (tables_in t) w 0 ≡ n
      go false b h = absurd (never 20 n h)
      go true false h = absurd (never 22 n h)
      go true true h = same-given (search_from ((tables_in t).counts object_section) x (tables_in t) w 0) n h

  -- what it finds is the first of all objects that bears the name
  pub search-found : (k : ℕ) → searched x t l w ≡ given (suc k) → First x (tables_in t) w ((tables_in t).counts object_section) 0 k
  search-found k h = search-first x (tables_in t) w ((tables_in t).counts object_section) 0 k (answered (suc k) h)

  -- and where it finds nothing, none bears it
  pub search-finds-none : searched x t l w ≡ given 0 → (j : ℕ) → j < (tables_in t).counts object_section → bears x (tables_in t) w j ≡ false
  search-finds-none h j b = search-none x (tables_in t) w ((tables_in t).counts object_section) 0 (answered 0 h) j (omega arith) (omega arith)
