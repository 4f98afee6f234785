-- The rows of the grammar and their numbers: for each row its number, and for each number its row; tests that antt computes.
use Prim.Native.Nat.{ℕ, suc, ◌+◌, ◌-◌, ◌≤◌, ◌<◌}
use mathlib.Core.Path.{◌≡◌, refl, sym, ◌∙◌}
use mathlib.Core.List.{List, [], ◌∷◌}
use mathlib.Core.Bool.{Bool, true, false, not, ◌&&◌, ◌||◌, false≢true}
use mathlib.Core.Logic.{◌⊎◌, inl, inr}
use native.Mathlib.Omega.{arith}
use borrow.Author.Tests.{eqb-true, eqb-false, ltb-true, eq-eqb, not-true}
use lib.Dec.{eqb}
use lib.ListN.{length, get_or}
use Rattle.text.proofs.Within.{and_left, and_right, or_case}
use Rattle.rows.specs.Sections.{none}
use Rattle.rows.specs.Codes.{FILE}
use Rattle.rows.specs.Row.{Param, opening, Row, Need}
use Rattle.rows.specs.Rows.{rows, needed, keeps}
use Rattle.rows.specs.Numbered.{no_row, row_at, no_need, need_at, all_params, param_at, first_param}
use Rattle.grammar.specs.Keyword.{row_from, row_of, holder_of, is_row}
use Rattle.facts.proofs.Tests.{implied}
use Rattle.tree.specs.Tree.{Among}

-- ---- the parameters of a row

-- parameter p is q, and goes to section j; the one after it, if there is one, has the next number
pub record IsParam (p j : ℕ) (q : Param) : Type 0 where
  pub some : eqb p 0 ≡ false
  pub kind : (param_at p).param.kind ≡ q.kind
  pub slot : (param_at p).param.slot ≡ q.slot
  pub sec : (param_at p).sec ≡ j
  pub low : (param_at p).param.low ≡ q.low
  pub high : (param_at p).param.high ≡ q.high
  pub back : eqb (param_at p).next 0 ≡ false → (param_at p).next - 1 ≡ p

-- the parameters from number p on are qs
abbrev pub Chain : ℕ → ℕ → List Param → Type 0
Chain p j [] = p ≡ 0
Chain p j (q ∷ qs) = IsParam p j q × Chain (param_at p).next j qs

abbrev is_param : ℕ → ℕ → Param → Bool
is_param p j q =
    (not (eqb p 0) && eqb (param_at p).param.kind q.kind) && ((eqb (param_at p).param.slot q.slot && eqb (param_at p).sec j)
    && ((eqb (param_at p).param.low q.low && eqb (param_at p).param.high q.high) && (eqb (param_at p).next 0 || eqb ((param_at p).next - 1) p)))

abbrev chained : ℕ → ℕ → List Param → Bool
chained p j [] = eqb p 0
chained p j (q ∷ qs) = is_param p j q && chained (param_at p).next j qs

both : (a b : Bool) → (a && b) ≡ true → (a ≡ true) × (b ≡ true)
both a b h = (and_left a b h, and_right a b h)

is-param : (p j : ℕ) (q : Param) → is_param p j q ≡ true → IsParam p j q
is-param p j q h =
    let a = both (not (eqb p 0) && eqb (param_at p).param.kind q.kind) _ h in
    let b = both (not (eqb p 0)) (eqb (param_at p).param.kind q.kind) a.0 in
    let c = both (eqb (param_at p).param.slot q.slot && eqb (param_at p).sec j) _ a.1 in
    let e = both (eqb (param_at p).param.slot q.slot) (eqb (param_at p).sec j) c.0 in
    let f = both (eqb (param_at p).param.low q.low && eqb (param_at p).param.high q.high) _ c.1 in
    let g = both (eqb (param_at p).param.low q.low) (eqb (param_at p).param.high q.high) f.0 in
    record {
      some = not-true (eqb p 0) b.0;
      kind = eqb-true (param_at p).param.kind q.kind b.1;
      slot = eqb-true (param_at p).param.slot q.slot e.0;
      sec = eqb-true (param_at p).sec j e.1;
      low = eqb-true (param_at p).param.low q.low g.0;
      high = eqb-true (param_at p).param.high q.high g.1;
      back = λ z. later z (or_case (eqb (param_at p).next 0) (eqb ((param_at p).next - 1) p) f.1);
    } where
      later : eqb (param_at p).next 0 ≡ false → (eqb (param_at p).next 0 ≡ true) ⊎ (eqb ((param_at p).next - 1) p ≡ true) → (param_at p).next - 1 ≡ p
      later z (inl t) = absurd (false≢true (sym z ∙ t))
      later z (inr t) = eqb-true ((param_at p).next - 1) p t

chain : (j : ℕ) (qs : List Param) (p : ℕ) → chained p j qs ≡ true → Chain p j qs
chain j [] p h = eqb-true p 0 h
chain j (q ∷ qs) p h =
    let a = both (is_param p j q) (chained (param_at p).next j qs) h in
    (is-param p j q a.0, chain j qs (param_at p).next a.1)

-- ---- the rows

-- what the list has from its first on is what is found from number n on
abbrev From : {A : Type 0} → (ℕ → A) → A → ℕ → List A → Type 0
From at d n ys = (f : ℕ) → at (n + f) ≡ get_or ys f d

module _ {A : Type 0} (at : ℕ → A) (d : A) (n : ℕ) where
  first-is : (a : A) (ys : List A) → From at d n (a ∷ ys) → at n ≡ a
  first-is a ys g = let e : n + 0 ≡ n = omega arith in rw e at (g 0)

  rest-are : (a : A) (ys : List A) → From at d n (a ∷ ys) → From at d (suc n) ys
  rest-are a ys g f = let e : suc n + f ≡ n + suc f = omega arith in rw e (g (suc f))

-- row i is r
pub record IsRow (i : ℕ) (r : Row) : Type 0 where
  pub same : row_at i ≡ r
  pub inside : is_row i ≡ true
  pub found : row_of r.parent r.word ≡ i
  pub chain : Chain (first_param i) (keeps r) r.params
  -- a keyword that may repeat gets no record of its own
  pub alone : r.once ≡ 0 → r.adds ≡ none
  -- a block stands in the one that holds it
  pub held : r.opens ≡ opening → holder_of r.word ≡ r.parent
  -- no word has the number of the whole text
  pub named : eqb r.word FILE ≡ false

abbrev row_test : ℕ → Row → Bool
row_test i r =
    ((is_row i && eqb (row_of r.parent r.word) i) && chained (first_param i) (keeps r) r.params)
    && ((not (eqb r.once 0) || eqb r.adds none) && ((not (eqb r.opens opening) || eqb (holder_of r.word) r.parent) && not (eqb r.word FILE)))

abbrev rows_test : ℕ → List Row → Bool
rows_test n [] = true
rows_test n (r ∷ rs) = row_test n r && rows_test (suc n) rs

all-rows : rows_test 0 rows ≡ true
unfolding rows all_params row_at first_param param_at row_of row_from
all-rows = refl

rows_are : From row_at no_row 0 rows
unfolding row_at
rows_are f = let e : 0 + f ≡ f = omega arith in rw e

is-row : (i : ℕ) (r : Row) → row_at i ≡ r → row_test i r ≡ true → IsRow i r
is-row i r e h =
    let a = both ((is_row i && eqb (row_of r.parent r.word) i) && chained (first_param i) (keeps r) r.params) _ h in
    let a₁ = both (is_row i && eqb (row_of r.parent r.word) i) _ a.0 in
    let a₂ = both (is_row i) (eqb (row_of r.parent r.word) i) a₁.0 in
    let b = both (not (eqb r.once 0) || eqb r.adds none) _ a.1 in
    let b₁ = both (not (eqb r.opens opening) || eqb (holder_of r.word) r.parent) (not (eqb r.word FILE)) b.1 in
    record {
      same = e;
      inside = a₂.0;
      found = eqb-true (row_of r.parent r.word) i a₂.1;
      chain = chain (keeps r) r.params (first_param i) a₁.1;
      alone = λ z. eqb-true r.adds none (implied (eqb r.once 0) _ b.0 (eq-eqb r.once 0 z));
      held = λ z. eqb-true (holder_of r.word) r.parent (implied (eqb r.opens opening) _ b₁.0 (eq-eqb r.opens opening z));
      named = not-true (eqb r.word FILE) b₁.1;
    }

-- the first of the rows from n on, and that the test holds of the others
module _ (s : Row) (rs : List Row) (n : ℕ) (g : From row_at no_row n (s ∷ rs)) (h : rows_test n (s ∷ rs) ≡ true) where
  first-row : IsRow n s
  first-row = is-row n s (first-is row_at no_row n s rs g) (and_left (row_test n s) (rows_test (suc n) rs) h)

  other-rows : rows_test (suc n) rs ≡ true
  other-rows = and_right (row_test n s) (rows_test (suc n) rs) h

-- the number of a row
number_in : (rs : List Row) (n : ℕ) → From row_at no_row n rs → rows_test n rs ≡ true → (r : Row) → Among r rs → (i : ℕ) × IsRow i r
number_in [] n g h r m = absurd m
number_in (s ∷ rs) n g h r (inl e) = (n, rw e (first-row s rs n g h))
number_in (s ∷ rs) n g h r (inr m) = number_in rs (suc n) (rest-are row_at no_row n s rs g) (other-rows s rs n g h) r m

pub number_of : (r : Row) → Among r rows → (i : ℕ) × IsRow i r
number_of = number_in rows 0 rows_are all-rows

-- the row of a number
row_in : (rs : List Row) (n : ℕ) → From row_at no_row n rs → rows_test n rs ≡ true → (i : ℕ) → n ≤ i → i < n + length rs → (r : Row) × Among r rs × IsRow i r
row_in [] n g h i l m = absurd (omega arith)
row_in (s ∷ rs) n g h i l m = by_first (eqb n i) refl (λ a b. row_in rs (suc n) (rest-are row_at no_row n s rs g) (other-rows s rs n g h) i a b) where
  rest : (r : Row) × Among r rs × IsRow i r → (r : Row) × Among r (s ∷ rs) × IsRow i r
  rest t = (t.0, inr t.1, t.2)

  first : n ≡ i → (r : Row) × Among r (s ∷ rs) × IsRow i r
  first e = (s, inl refl, rw e at (first-row s rs n g h))

  by_first : (t : Bool) → eqb n i ≡ t → (suc n ≤ i → i < suc n + length rs → (r : Row) × Among r rs × IsRow i r) → (r : Row) × Among r (s ∷ rs) × IsRow i r
  by_first true t go = first (eqb-true n i t)
  by_first false t go = rest (go (omega (arith, eqb-false n i t)) (omega arith))

pub row-at : (i : ℕ) → is_row i ≡ true → (r : Row) × Among r rows × IsRow i r
row-at i h = row_in rows 0 rows_are all-rows i (omega arith) (omega (arith, ltb-true i (length rows) h))

-- ---- the needs

-- the needs from number i on are ns
abbrev pub Needs : ℕ → List Need → Type 0
Needs i [] = Unit {0}
Needs i (n ∷ ns) = (need_at i ≡ n) × Needs (suc i) ns

needs-are : (ns : List Need) (i : ℕ) → From need_at no_need i ns → Needs i ns
needs-are [] i g = tt
needs-are (n ∷ ns) i g = (first-is need_at no_need i n ns g, needs-are ns (suc i) (rest-are need_at no_need i n ns g))

pub all-needs : Needs 0 needed
unfolding need_at
all-needs = needs-are needed 0 (λ f. let e : 0 + f ≡ f = omega arith in rw e)
