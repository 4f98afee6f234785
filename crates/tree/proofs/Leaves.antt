-- What a keyword and its parameters leave in the slots of the records.
--     Left      parameters that make no record write slots of the current record: which, and how small their numbers may be
--     Named     the parameters of a block with a name make a record first
--     Aside     parameters change no section but their own and that of the entries
--     count_left, stands_good     a keyword is counted, and keeps the records' form
use Prim.Native.Nat.{ℕ, suc, ◌+◌, ◌-◌, ◌≤◌, ◌<◌}
use mathlib.Core.Path.{◌≡◌, refl, sym, ◌∙◌, ap}
use mathlib.Core.List.{List, [], ◌∷◌}
use mathlib.Core.Bool.{Bool, true, false, cond, not, ◌&&◌, false≢true}
use mathlib.Core.Logic.{◌⊎◌, inl, inr}
use native.Mathlib.Omega.{arith}
use borrow.Author.Tests.{eqb-true, eqb-false, leb-true, leb-false, ltb-true, ltb-false, not-true}
use lib.Dec.{eqb, ltb, leb}
use lib.ListN.{length, take}
use Rattle.text.specs.Answer as piece
use Rattle.text.proofs.Within.{by-test, and_left, and_right}
use Rattle.records.specs.Records.{width_of, most_of, count, slot, add}
use Rattle.records.proofs.Encode.{Good, good-add}
use Rattle.rows.specs.Sections.{sections, none, entry}
use Rattle.rows.specs.Row.{Param, whole, Row}
use Rattle.rows.specs.Rows.{keeps}
use Rattle.grammar.specs.Move.{writes, applied}
use Rattle.grammar.specs.Parameter.{sign_of, new_record}
use Rattle.grammar.specs.declared.state.Act.{Act}
use Rattle.grammar.proofs.Cells.{good-applied}
use Rattle.facts.proofs.Moves.{wide_of}
use Rattle.facts.proofs.Slots.{count-puts, clear-slot, other-slot, written-slot, same_count}
use Rattle.tree.specs.Tree.{Records, current, written, kept, appended, Parameter, takes_name, takes_string, takes_whole, takes_decimal, takes_choice, takes_new, takes_points, takes_alignment, takes_nought, takes_upper, Pairs, pair, Parameters, next, many, counted, Stands}
use Rattle.tree.specs.Tree as tree
use Rattle.tree.proofs.Acts.{add_none, applied-writes, applied-new}
use Rattle.tree.proofs.Steps.{token-lies}
use Rattle.tree.proofs.Filled.{four-least}

-- ---- which slots parameters write, and the least that they leave there

-- parameter q writes slot k
abbrev pub covers : Param → ℕ → Bool
covers q k = not (eqb q.slot 0) && (leb q.slot k && ltb k (q.slot + wide_of q.kind))

abbrev pub untouched : List Param → ℕ → Bool
untouched [] k = true
untouched (q ∷ qs) k = not (covers q k) && untouched qs k

-- one number is at least the parameter's least; a text's end is past its first byte
abbrev pub least_in : Param → ℕ → ℕ
least_in q k = cond (eqb (wide_of q.kind) 1) q.low (cond (eqb (wide_of q.kind) 2 && eqb k (q.slot + 1)) 1 0)

-- the least in slot k after them, where it is m before
abbrev pub least_of : List Param → ℕ → ℕ → ℕ
least_of [] k m = m
least_of (q ∷ qs) k m = least_of qs k (cond (covers q k) (least_in q k) m)

-- d' are the records after parameters qs of section j
pub record Left (qs : List Param) (j : ℕ) (d d' : Records) : Type 0 where
  pub counts : (j' : ℕ) → count d' j' ≡ count d j'
  pub good : Good sections d → Good sections d'
  -- a slot of another section, of a record that is not the last, or that none of them writes
  pub same : (j' i k : ℕ) → (j' ≡ j → suc i ≡ count d j → untouched qs k ≡ true) → slot d' j' i k ≡ slot d j' i k
  pub least : Good sections d → (i k m : ℕ) → suc i ≡ count d j → k < width_of sections j → m ≤ slot d j i k → least_of qs k m ≤ slot d' j i k

-- ---- one parameter that makes no record

written_count : (j n : ℕ) (vs : List ℕ) (d : Records) (j' : ℕ) → count (written j n vs d) j' ≡ count d j'
unfolding written
written_count j n vs d j' = count-puts d j (count d j - 1) n vs j'

module _ (q : Param) (j a b c : ℕ) (d : Records) where
  abbrev after : Records
  after = kept j q.slot (take (wide_of q.kind) (a ∷ b ∷ c ∷ 0 ∷ [])) d

  abbrev act : Act
  act = writes j q.slot (wide_of q.kind) a b c

  -- nothing is kept, or it is written
  by-slot : (P : Records → Type 0) → (eqb q.slot 0 ≡ true → P d) → (eqb q.slot 0 ≡ false → P (applied act d)) → P after
  unfolding kept
  by-slot P f g = by-test P (eqb q.slot 0) f (λ t. rw (applied-writes j q.slot (wide_of q.kind) a b c d) at (g t))

  one-counts : (j' : ℕ) → count after j' ≡ count d j'
  unfolding kept
  one-counts j' = by-test (λ (e : Records). count e j' ≡ count d j') (eqb q.slot 0) (λ t. refl) (λ t. written_count j q.slot (take (wide_of q.kind) (a ∷ b ∷ c ∷ 0 ∷ [])) d j')

  one-good : Good sections d → Good sections after
  one-good g = by-slot (Good sections) (λ t. g) (λ t. good-applied 0 act d g)

  act-counts : (j' : ℕ) → count (applied act d) j' ≡ count d j'
  act-counts j' = rw (applied-writes j q.slot (wide_of q.kind) a b c d) (written_count j q.slot (take (wide_of q.kind) (a ∷ b ∷ c ∷ 0 ∷ [])) d j')

  -- not covered: before its slots or past them
  beside : (k : ℕ) → eqb q.slot 0 ≡ false → covers q k ≡ false → (k < q.slot) ⊎ (q.slot + wide_of q.kind ≤ k)
  beside k t h = by_side (leb q.slot k) (ltb k (q.slot + wide_of q.kind)) refl refl where
    by_side : (u v : Bool) → leb q.slot k ≡ u → ltb k (q.slot + wide_of q.kind) ≡ v → (k < q.slot) ⊎ (q.slot + wide_of q.kind ≤ k)
    by_side false v e f = inl (leb-false q.slot k e)
    by_side true false e f = inr (ltb-false k (q.slot + wide_of q.kind) f)
    by_side true true e f = absurd (false≢true (sym (rw (t, e, f) at h)))

  one_same : (j' i k : ℕ) → (j' ≡ j → suc i ≡ count d j → covers q k ≡ false) → slot after j' i k ≡ slot d j' i k
  one_same j' i k h = by-slot (λ (e : Records). slot e j' i k ≡ slot d j' i k) (λ t. refl) (λ t. by_last t (eqb j' j) (eqb (suc i) (count d j)) refl refl) where
    by_last : eqb q.slot 0 ≡ false → (u v : Bool) → eqb j' j ≡ u → eqb (suc i) (count d j) ≡ v → slot (applied act d) j' i k ≡ slot d j' i k
    by_last t false v e f = clear-slot act d j' i k (λ p. absurd (eqb-false j' j e p))
    by_last t true true e f = clear-slot act d j' i k (λ p. beside k t (h p (eqb-true (suc i) (count d j) f)))
    by_last t true false e f =
        let p : j' ≡ j = eqb-true j' j e in
        other-slot act d j' i k (λ z. eqb-false (suc i) (count d j) f (z ∙ act-counts j' ∙ ap (count d) p))

  module _ (low : wide_of q.kind ≡ 1 → q.low ≤ a) (past : wide_of q.kind ≡ 2 → 1 ≤ b) (g : Good sections d) (i k m : ℕ) (l : suc i ≡ count d j) (w : k < width_of sections j) (h : m ≤ slot d j i k) where
    last : suc i ≡ count (applied act d) j
    last = l ∙ sym (act-counts j)

    -- the one number of a slot, and the end of a text
    first-number : wide_of q.kind ≡ 1 → q.slot ≡ k → slot (applied act d) j i k ≡ a
    first-number e f =
        let z : q.slot + 0 ≡ q.slot = omega arith in
        let u : slot (applied (writes j q.slot 1 a b c) d) j i q.slot ≡ a = rw z at (written-slot (writes j q.slot 1 a b c) d i 0 g (rw e at last) (omega arith) (omega arith)) in
        rw (e, ← f) u

    second-number : wide_of q.kind ≡ 2 → q.slot + 1 ≡ k → slot (applied act d) j i k ≡ b
    second-number e f =
        let u : slot (applied (writes j q.slot 2 a b c) d) j i (q.slot + 1) ≡ b = written-slot (writes j q.slot 2 a b c) d i 1 g (rw e at last) (omega arith) (omega arith) in
        rw (e, ← f) u

    inside : covers q k ≡ true → (eqb q.slot 0 ≡ false) × (q.slot ≤ k) × (k < q.slot + wide_of q.kind)
    inside t =
        let u = and_right (not (eqb q.slot 0)) (leb q.slot k && ltb k (q.slot + wide_of q.kind)) t in (
          not-true (eqb q.slot 0) (and_left (not (eqb q.slot 0)) (leb q.slot k && ltb k (q.slot + wide_of q.kind)) t),
          leb-true q.slot k (and_left (leb q.slot k) (ltb k (q.slot + wide_of q.kind)) u),
          ltb-true k (q.slot + wide_of q.kind) (and_right (leb q.slot k) (ltb k (q.slot + wide_of q.kind)) u),
        )

    covered : covers q k ≡ true → least_in q k ≤ slot (applied act d) j i k
    covered t =
        by-test (λ (n : ℕ). n ≤ slot (applied act d) j i k) (eqb (wide_of q.kind) 1)
        (λ e. let o : wide_of q.kind ≡ 1 = eqb-true (wide_of q.kind) 1 e in rw (first-number o (omega (arith, (inside t).1, (inside t).2))) (low o))
        (λ e. by-test (λ (n : ℕ). n ≤ slot (applied act d) j i k) (eqb (wide_of q.kind) 2 && eqb k (q.slot + 1))
        (λ u. let o : wide_of q.kind ≡ 2 = eqb-true (wide_of q.kind) 2 (and_left (eqb (wide_of q.kind) 2) (eqb k (q.slot + 1)) u) in
        rw (second-number o (sym (eqb-true k (q.slot + 1) (and_right (eqb (wide_of q.kind) 2) (eqb k (q.slot + 1)) u)))) (past o)) (λ u. omega arith))

    one-least : cond (covers q k) (least_in q k) m ≤ slot after j i k
    one-least = by-test (λ (n : ℕ). n ≤ slot after j i k) (covers q k)
        (λ t. by-slot (λ (e : Records). least_in q k ≤ slot e j i k) (λ z. absurd (false≢true (sym (inside t).0 ∙ z))) (λ z. covered t))
        (λ t. rw (one_same j i k (λ p e. t)) h)

-- a parameter with its numbers
pub record Kept (q : Param) (j : ℕ) (d d' : Records) : Type 0 where
  pub a : ℕ
  pub b : ℕ
  pub c : ℕ
  pub is : d' ≡ kept j q.slot (take (wide_of q.kind) (a ∷ b ∷ c ∷ 0 ∷ [])) d
  pub low : wide_of q.kind ≡ 1 → q.low ≤ a
  pub past : wide_of q.kind ≡ 2 → 1 ≤ b

-- it comes first, and then the others
first-left : (q : Param) (qs : List Param) (j : ℕ) (d d₁ d' : Records) → Kept q j d d₁ → Left qs j d₁ d' → Left (q ∷ qs) j d d'
first-left q qs j d d₁ d' f r = record {
  counts = λ j'. r.counts j' ∙ first-counts j';
  good = λ g. r.good (first_good g);
  same = λ j' i k h. r.same j' i k (λ p e. and_right (not (covers q k)) (untouched qs k) (h p (e ∙ first-counts j))) ∙ first-same j' i k (λ p e. not-true (covers q k) (and_left (not (covers q k)) (untouched qs k) (h p e)));
  least = λ g i k m l w h. r.least (first_good g) i k (cond (covers q k) (least_in q k) m) (l ∙ sym (first-counts j)) w (first-least g i k m l w h);
} where
  first-counts : (j' : ℕ) → count d₁ j' ≡ count d j'
  first-counts j' = rw f.is (one-counts q j f.a f.b f.c d j')

  first_good : Good sections d → Good sections d₁
  first_good g = rw f.is (one-good q j f.a f.b f.c d g)

  first-same : (j' i k : ℕ) → (j' ≡ j → suc i ≡ count d j → covers q k ≡ false) → slot d₁ j' i k ≡ slot d j' i k
  first-same j' i k h = rw f.is (one_same q j f.a f.b f.c d j' i k h)

  first-least : Good sections d → (i k m : ℕ) → suc i ≡ count d j → k < width_of sections j → m ≤ slot d j i k → cond (covers q k) (least_in q k) m ≤ slot d₁ j i k
  first-least g i k m l w h = rw f.is (one-least q j f.a f.b f.c d f.low f.past g i k m l w h)

none_left : (j : ℕ) (d : Records) → Left [] j d d
none_left j d = record { counts = λ j'. refl; good = λ g. g; same = λ j' i k h. refl; least = λ g i k m l w h. h }

pub one_left : (q : Param) (j : ℕ) (d d' : Records) → Kept q j d d' → Left (q ∷ []) j d d'
one_left q j d d' f = first-left q [] j d d' d' f (none_left j d')

-- ---- the parameters of the tree

-- neither a new record's name nor how many pairs follow
abbrev pub is_plain : Param → Bool
is_plain q = not (eqb q.kind 6) && not (eqb q.kind 11)

abbrev pub are_plain : List Param → Bool
are_plain [] = true
are_plain (q ∷ qs) = is_plain q && are_plain qs

module _ (x : List ℕ) (b j : ℕ) where
  -- where a parameter ends
  one-ends : {q : Param} {k e : ℕ} {d d' : Records} → Parameter x b j q k d e d' → k ≤ length x → e ≤ length x
  one-ends (takes_name {s} {k} {a} {e} {d} t) h = (token-lies x k piece.name a e h t).2
  one-ends (takes_string {s} {k} {a} {e} {d} t) h = (token-lies x k piece.string a e h t).2
  one-ends (takes_whole {k} {n} {e} t z) h = (token-lies x k piece.number t.0 e h t.1).2
  one-ends (takes_decimal {s} {k} {e} {m} {d} t) h = (token-lies x k piece.number t.0 e h t.1).2
  one-ends (takes_choice {k} {c} {e} t y z) h = (token-lies x k piece.name t.0 e h t.1).2
  one-ends (takes_new {k} {a} {e} t y z) h = (token-lies x k piece.name a e h t).2
  one-ends (takes_points {s} {k} {n} {e} {d} t y z) h = (token-lies x k piece.number t.0 e h t.1).2
  one-ends (takes_alignment {s} {k} {n} {e} {d} t y) h = (token-lies x k piece.number t.0 e h t.1).2
  one-ends (takes_nought {k} {e} {m} {d} t y) h = (token-lies x k piece.number t.0 e h t.1).2
  one-ends (takes_upper {s} {k} {e} {m} {d} t y) h = (token-lies x k piece.number t.0 e h t.1).2

  pairs_end : {n k k' : ℕ} {d d' : Records} → Pairs x n k d k' d' → k ≤ length x → k' ≤ length x
  pairs_end tree.Pairs.no_more h = h
  pairs_end (pair {n} {k} {e} {a} {f} {k'} {m} {d} {d'} w z u l v rest) h =
      pairs_end rest (token-lies x e piece.string a f (token-lies x k piece.number w.0 e h w.1).2 v).2

  pub filled-ends : {qs : List Param} {k k' : ℕ} {d d' : Records} → Parameters x b j qs k d k' d' → k ≤ length x → k' ≤ length x
  filled-ends tree.Parameters.no_more h = h
  filled-ends (next one rest) h = filled-ends rest (one-ends one h)
  filled-ends (many {s} {t} {k} {n} {e} {k'} {d} w ps) h = pairs_end ps (token-lies x k piece.number w.0 e h w.1).2

  -- the numbers of one that makes no record
  one_kept : {q : Param} {k e : ℕ} {d d' : Records} → Parameter x b j q k d e d' → k ≤ length x → eqb q.kind 6 ≡ false → Kept q j d d'
  unfolding wide_of
  one_kept (takes_name {s} {k} {a} {e} {d} t) h z =
      let p = token-lies x k piece.name a e h t in
      record { a = a; b = e; c = 0; is = refl; low = λ u. absurd (omega arith); past = λ u. omega (arith, p.1) }
  one_kept (takes_string {s} {k} {a} {e} {d} t) h z =
      let p = token-lies x k piece.string a e h t in
      record { a = a; b = e; c = 0; is = refl; low = λ u. absurd (omega arith); past = λ u. omega (arith, p.1) }
  one_kept (takes_whole {k} {n} {e} t y) h z = record { a = n; b = 0; c = 0; is = refl; low = λ u. y; past = λ u. absurd (omega arith) }
  one_kept (takes_decimal {s} {k} {e} {m} {d} t) h z =
      record { a = sign_of m; b = m.whole; c = m.tens; is = refl; low = λ u. absurd (omega arith); past = λ u. absurd (omega arith) }
  one_kept (takes_choice {k} {c} {e} t y w) h z = record { a = c; b = 0; c = 0; is = refl; low = λ u. y; past = λ u. absurd (omega arith) }
  one_kept (takes_new {k} {a} {e} t y w) h z = absurd (false≢true (sym z))
  one_kept (takes_points {s} {k} {n} {e} {d} t y w) h z = record { a = n; b = 0; c = 0; is = refl; low = λ u. y; past = λ u. absurd (omega arith) }
  one_kept (takes_alignment {s} {k} {n} {e} {d} t y) h z = record { a = n; b = 0; c = 0; is = refl; low = λ u. four-least n y; past = λ u. absurd (omega arith) }
  one_kept (takes_nought {k} {e} {m} {d} t y) h z =
      record { a = 0; b = 0; c = 0; is = unfold kept in refl; low = λ u. absurd (omega arith); past = λ u. absurd (omega arith) }
  one_kept (takes_upper {s} {k} {e} {m} {d} t y) h z =
      record { a = sign_of m; b = m.whole; c = m.tens; is = refl; low = λ u. absurd (omega arith); past = λ u. absurd (omega arith) }

  pub filled-left : {qs : List Param} {k k' : ℕ} {d d' : Records} → Parameters x b j qs k d k' d' → k ≤ length x → are_plain qs ≡ true → Left qs j d d'
  filled-left (tree.Parameters.no_more {k} {d}) h z = none_left j d
  filled-left (next {q} {qs} {k} {e} {k'} {d} {d₁} {d'} one rest) h z =
      let p : is_plain q ≡ true = and_left (is_plain q) (are_plain qs) z in
      first-left q qs j d d₁ d' (one_kept one h (not-true (eqb q.kind 6) (and_left (not (eqb q.kind 6)) (not (eqb q.kind 11)) p))) (filled-left rest (one-ends one h) (and_right (is_plain q) (are_plain qs) z))
  filled-left (many w ps) h z = absurd (false≢true z)

-- ---- a new record's name, and then parameters that make none

abbrev pub is_named : List Param → Bool
is_named [] = false
is_named (q ∷ qs) = eqb q.kind 6 && are_plain qs

abbrev pub holds : List Param → ℕ
holds [] = 0
holds (q ∷ qs) = q.slot

abbrev pub rest : List Param → List Param
rest [] = []
rest (q ∷ qs) = qs

-- the record of section j begins with a name, how many records it holds there are, and its block b
pub record Named (b j : ℕ) (qs : List Param) (d d' : Records) : Type 0 where
  pub from : ℕ
  pub past : ℕ
  pub room : count d j < most_of sections j
  pub left : Left (rest qs) j (applied (new_record j 4 from past (count d (holds qs)) b) d) d'

-- a parameter that makes a record
record New (b j : ℕ) (q : Param) (d d' : Records) : Type 0 where
  from : ℕ
  past : ℕ
  room : count d j < most_of sections j
  is : d' ≡ appended j (from ∷ past ∷ count d q.slot ∷ b ∷ []) d

module _ (x : List ℕ) (b j : ℕ) where
  one-new : {q : Param} {k e : ℕ} {d d' : Records} → Parameter x b j q k d e d' → eqb q.kind 6 ≡ true → New b j q d d'
  one-new (takes_new {k} {a} {e} t y w) z = record { from = a; past = e; room = w; is = refl }
  one-new (takes_name t) z = absurd (false≢true z)
  one-new (takes_string t) z = absurd (false≢true z)
  one-new (takes_whole t y) z = absurd (false≢true z)
  one-new (takes_decimal t) z = absurd (false≢true z)
  one-new (takes_choice t y w) z = absurd (false≢true z)
  one-new (takes_points t y w) z = absurd (false≢true z)
  one-new (takes_alignment t y) z = absurd (false≢true z)
  one-new (takes_nought t y) z = absurd (false≢true z)
  one-new (takes_upper t y) z = absurd (false≢true z)

  pub filled-named : {qs : List Param} {k k' : ℕ} {d d' : Records} → Parameters x b j qs k d k' d' → k ≤ length x → is_named qs ≡ true → Named b j qs d d'
  filled-named tree.Parameters.no_more h z = absurd (false≢true z)
  filled-named (next {q} {qs} {k} {e} {k'} {d} {d₁} {d'} one more) h z =
      let n : New b j q d d₁ = one-new one (and_left (eqb q.kind 6) (are_plain qs) z) in
      let l : Left qs j d₁ d' = filled-left x b j more (one-ends x b j one h) (and_right (eqb q.kind 6) (are_plain qs) z) in
      record {
        from = n.from;
        past = n.past;
        room = n.room;
        left = rw (applied-new j 4 n.from n.past (count d q.slot) b d) (rw n.is at l);
      }
  filled-named (many w ps) h z = absurd (false≢true z)

-- ---- any parameters: no other section but that of the entries changes

pub record Aside (j : ℕ) (d d' : Records) : Type 0 where
  pub counts : (j' : ℕ) → (j' ≡ j → ⊥) → (j' ≡ entry → ⊥) → count d' j' ≡ count d j'
  pub good : Good sections d → Good sections d'
  pub same : (j' i k : ℕ) → (j' ≡ j → ⊥) → (j' ≡ entry → ⊥) → slot d' j' i k ≡ slot d j' i k

none-aside : (j : ℕ) (d : Records) → Aside j d d
none-aside j d = record { counts = λ j' p e. refl; good = λ g. g; same = λ j' i k p e. refl }

both-aside : (j : ℕ) (d d₁ d' : Records) → Aside j d d₁ → Aside j d₁ d' → Aside j d d'
both-aside j d d₁ d' p q = record {
  counts = λ j' u v. q.counts j' u v ∙ p.counts j' u v;
  good = λ g. q.good (p.good g);
  same = λ j' i k u v. q.same j' i k u v ∙ p.same j' i k u v;
}

kept-aside : (q : Param) (j : ℕ) (d d' : Records) → Kept q j d d' → Aside j d d'
kept-aside q j d d' f =
    let l : Left (q ∷ []) j d d' = one_left q j d d' f in
    record { counts = λ j' u v. l.counts j'; good = l.good; same = λ j' i k u v. l.same j' i k (λ p. absurd (u p)) }

-- an act on one section
act-aside : (j : ℕ) (a : Act) (d : Records) → a.sec ≡ j → a.adds ≡ j → Aside j d (applied a d)
act-aside j a d e f = record {
  counts = λ j' u v. same_count a d j' (λ p. u (p ∙ f));
  good = good-applied 0 a d;
  same = λ j' i k u v. clear-slot a d j' i k (λ p. absurd (u (p ∙ e)));
}

entry-aside : (j : ℕ) (d d' : Records) → Aside entry d d' → Aside j d d'
entry-aside j d d' p = record { counts = λ j' u v. p.counts j' v v; good = p.good; same = λ j' i k u v. p.same j' i k v v }

module _ (x : List ℕ) (b j : ℕ) where
  one-aside : {q : Param} {k e : ℕ} {d d' : Records} → Parameter x b j q k d e d' → k ≤ length x → Aside j d d'
  one-aside {q} {k} {e} {d} {d'} one h = by_kind (eqb q.kind 6) refl where
    by_kind : (t : Bool) → eqb q.kind 6 ≡ t → Aside j d d'
    by_kind true t =
        let n : New b j q d d' = one-new x b j one t in
        rw (n.is, ← applied-new j 4 n.from n.past (count d q.slot) b d) (act-aside j (new_record j 4 n.from n.past (count d q.slot) b) d refl refl)
    by_kind false t = kept-aside q j d d' (one_kept x b j one h t)

  pairs-aside : {n k k' : ℕ} {d d' : Records} → Pairs x n k d k' d' → Aside entry d d'
  pairs-aside (tree.Pairs.no_more {k} {d}) = none-aside entry d
  pairs-aside (pair {n} {k} {e} {a} {f} {k'} {m} {d} {d'} w z u l v more) =
      let d₁ : Records = appended entry (sign_of m ∷ m.whole ∷ []) d in
      let p : Aside entry d d₁ = rw (← applied-new entry 2 (sign_of m) m.whole 0 0 d) (act-aside entry (new_record entry 2 (sign_of m) m.whole 0 0) d refl refl) in
      let q : Aside entry d₁ (written entry 2 (a ∷ f ∷ []) d₁) = written-aside entry 2 a f d₁ in
      both-aside entry d d₁ d' p (both-aside entry d₁ (written entry 2 (a ∷ f ∷ []) d₁) d' q (pairs-aside more)) where
        written-aside : (i n a f : ℕ) (c : Records) → Aside i c (written i n (a ∷ f ∷ []) c)
        written-aside i n a f c = rw (← applied-writes i n 2 a f 0 c) (record {
          counts = λ j' u v. rw (applied-writes i n 2 a f 0 c) (written_count i n (a ∷ f ∷ []) c j');
          good = good-applied 0 (writes i n 2 a f 0) c;
          same = λ j' i' k' u v. clear-slot (writes i n 2 a f 0) c j' i' k' (λ p. absurd (u p));
        })

  pub filled-aside : {qs : List Param} {k k' : ℕ} {d d' : Records} → Parameters x b j qs k d k' d' → k ≤ length x → Aside j d d'
  unfolding wide_of
  filled-aside (tree.Parameters.no_more {k} {d}) h = none-aside j d
  filled-aside (next {q} {qs} {k} {e} {k'} {d} {d₁} {d'} one more) h = both-aside j d d₁ d' (one-aside one h) (filled-aside more (one-ends x b j one h))
  filled-aside (many {s} {t} {k} {n} {e} {k'} {d} {d'} w ps) h =
      both-aside j d (kept j s (n ∷ []) d) d'
      (kept-aside (whole s 0 0) j d (kept j s (n ∷ []) d) (record { a = n; b = 0; c = 0; is = refl; low = λ u. omega arith; past = λ u. absurd (omega arith) }))
      (entry-aside j (kept j s (n ∷ []) d) d' (pairs-aside ps))

-- ---- a keyword: its count, and its parameters

-- it is counted after it got a record where its row says so
pub count_left : (d : Records) (r : Row) → Left (whole r.once 1 0 ∷ []) r.sec (add sections d r.adds) (counted r d)
unfolding wide_of counted
count_left d r =
    one_left (whole r.once 1 0) r.sec (add sections d r.adds) (counted r d)
    (record { a = current d r.sec r.once + 1; b = 0; c = 0; is = refl; low = λ u. omega arith; past = λ u. absurd (omega arith) })

-- one that is not counted and makes no record
pub counted_none : (d : Records) (r : Row) → eqb r.adds none ≡ true → eqb r.once 0 ≡ true → counted r d ≡ d
unfolding counted kept
counted_none d r a o = rw (eqb-true r.adds none a, o, add_none d)

pub stands_good : (x : List ℕ) (home b : ℕ) (r : Row) (k : ℕ) (d : Records) (k' : ℕ) (d' : Records) → Stands x home b r k d k' d' → k ≤ length x → Good sections d → Good sections d'
stands_good x home b r k d k' d' s l g = (filled-aside x b (keeps r) s.filled l).good ((count_left d r).good (good-add sections 0 d g r.adds))
