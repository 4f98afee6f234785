-- What a keyword with its parameters leaves in one section: how many records, and which slots of the last one it writes.
use Prim.Native.Nat.{ℕ, suc, ◌≤◌, ◌<◌}
use mathlib.Core.Path.{◌≡◌, refl, sym, ◌∙◌}
use mathlib.Core.List.{List, [], ◌∷◌, ◌++◌}
use mathlib.Core.Bool.{Bool, true, false, cond, not, ◌&&◌, ◌||◌, false≢true}
use mathlib.Core.Logic.{inr}
use native.Mathlib.Omega.{arith}
use borrow.Author.Tests.{eqb-true, eqb-false, leb-true, ltb-true}
use lib.Dec.{eqb, leb, ltb}
use lib.ListN.{length}
use Rattle.text.proofs.Within.{and_left, and_right}
use Rattle.records.specs.Records.{width_of, most_of, count, slot, add}
use Rattle.records.proofs.Encode.{Good, good-add}
use Rattle.rows.specs.Sections.{sections, none, entry}
use Rattle.rows.specs.Row.{Param, whole, Row}
use Rattle.rows.specs.Rows.{keeps}
use Rattle.grammar.specs.Move.{applied}
use Rattle.grammar.specs.Parameter.{new_record}
use Rattle.grammar.specs.declared.state.Act.{Act}
use Rattle.grammar.proofs.Cells.{good-applied}
use Rattle.facts.proofs.Slots.{clear-slot, other-slot, same_count, one-record}
use Rattle.facts.proofs.Moves.{wide_of}
use Rattle.tree.specs.Tree.{Records, kept, counted, Stands}
use Rattle.tree.proofs.Leaves.{covers, least_in, untouched, least_of, Left, Aside, Named, are_plain, is_named, rest, holds, one_left, count_left, counted_none, filled-left, filled-named, filled-aside}

-- ---- what a row does to section j

-- it makes a record by a name
abbrev makes : ℕ → Row → Bool
makes j r = eqb (keeps r) j && is_named r.params

-- there may be one record more
abbrev pub grows : ℕ → Row → Bool
grows j r = eqb r.adds j || makes j r

-- such a record begins with four numbers
abbrev head_of : ℕ → Row → ℕ
head_of j r = cond (makes j r) 4 0

-- what it writes into the last record: its count, its parameters
abbrev into : ℕ → Row → List Param
into j r = cond (eqb r.sec j) (whole r.once 1 0 ∷ []) [] ++ cond (eqb (keeps r) j) (cond (is_named r.params) (rest r.params) r.params) []

-- it leaves slot k of the last record as it is
abbrev pub leaves : ℕ → Row → ℕ → Bool
leaves j r k = leb (head_of j r) k && untouched (into j r) k

-- it leaves slot k of the last record at 1 or more
abbrev pub fills : ℕ → Row → ℕ → Bool
fills j r k = leb (head_of j r) k && leb 1 (least_of (into j r) k 0)

-- its parameters are not pairs, and one that makes a record by a name does nothing before that
abbrev pub fits : ℕ → Row → Bool
fits j r = not (eqb (keeps r) j) || cond (is_named r.params) (eqb r.once 0 && eqb r.adds none) (are_plain r.params)

pub record Turned (j : ℕ) (r : Row) (d d' : Records) : Type 0 where
  pub still : grows j r ≡ false → count d' j ≡ count d j
  pub few : count d' j ≤ suc (count d j)
  -- of the records before the last, every slot
  pub same : (i k : ℕ) → (suc i ≡ count d' j → leaves j r k ≡ true) → slot d' j i k ≡ slot d j i k
  pub filled : (i k : ℕ) → suc i ≡ count d' j → k < width_of sections j → fills j r k ≡ true → 1 ≤ slot d' j i k

-- ---- parameters that make no record

record Wrote (qs : List Param) (j : ℕ) (d d' : Records) : Type 0 where
  stays : count d' j ≡ count d j
  good : Good sections d → Good sections d'
  same : (i k : ℕ) → (suc i ≡ count d j → untouched qs k ≡ true) → slot d' j i k ≡ slot d j i k
  least : Good sections d → (i k m : ℕ) → suc i ≡ count d j → k < width_of sections j → m ≤ slot d j i k → least_of qs k m ≤ slot d' j i k

wrote-own : (qs : List Param) (j : ℕ) (d d' : Records) → Left qs j d d' → Wrote qs j d d'
wrote-own qs j d d' l = record { stays = l.counts j; good = l.good; same = λ i k h. l.same j i k (λ p. h); least = l.least }

-- those of section j₀
wrote-left : (qs : List Param) (j₀ j : ℕ) (d d' : Records) → Left qs j₀ d d' → Wrote (cond (eqb j₀ j) qs []) j d d'
wrote-left qs j₀ j d d' l = turn (eqb j₀ j) refl where
  turn : (t : Bool) → eqb j₀ j ≡ t → Wrote (cond t qs []) j d d'
  turn true t = wrote-own qs j d d' (rw (eqb-true j₀ j t) at l)
  turn false t =
      let other : (i k : ℕ) → slot d' j i k ≡ slot d j i k = λ i k. l.same j i k (λ p. absurd (eqb-false j₀ j t (sym p))) in
      record { stays = l.counts j; good = l.good; same = λ i k h. other i k; least = λ g i k m e w h. rw (other i k) h }

untouched-append : (qs rs : List Param) (k : ℕ) → untouched (qs ++ rs) k ≡ true → (untouched qs k ≡ true) × (untouched rs k ≡ true)
untouched-append [] rs k h = (refl, h)
untouched-append (q ∷ qs) rs k h =
    let a = untouched-append qs rs k (and_right (not (covers q k)) (untouched (qs ++ rs) k) h) in
    (rw (and_left (not (covers q k)) (untouched (qs ++ rs) k) h) a.0, a.1)

least-append : (qs rs : List Param) (k m : ℕ) → least_of (qs ++ rs) k m ≡ least_of rs k (least_of qs k m)
least-append [] rs k m = refl
least-append (q ∷ qs) rs k m = least-append qs rs k (cond (covers q k) (least_in q k) m)

-- one after the other
wrote-both : (qs rs : List Param) (j : ℕ) (d d₁ d' : Records) → Wrote qs j d d₁ → Wrote rs j d₁ d' → Wrote (qs ++ rs) j d d'
wrote-both qs rs j d d₁ d' p q = record {
  stays = q.stays ∙ p.stays;
  good = λ g. q.good (p.good g);
  same = λ i k h. q.same i k (λ e. (untouched-append qs rs k (h (e ∙ p.stays))).1) ∙ p.same i k (λ e. (untouched-append qs rs k (h e)).0);
  least = λ g i k m e w h. rw (least-append qs rs k m) (q.least (p.good g) i k (least_of qs k m) (e ∙ sym p.stays) w (p.least g i k m e w h));
}

-- ---- a record more

-- by whether it is the last record
pub by_last : (d : Records) (j : ℕ) (P : ℕ → Type 0) (i : ℕ) → (suc i ≡ count d j → P i) → ((suc i ≡ count d j → ⊥) → P i) → P i
by_last d j P i f h = turn (eqb (suc i) (count d j)) refl where
  turn : (u : Bool) → eqb (suc i) (count d j) ≡ u → P i
  turn true u = f (eqb-true (suc i) (count d j) u)
  turn false u = h (eqb-false (suc i) (count d j) u)

-- of the last record the slots from m on stay
record Begun (m j : ℕ) (d d₁ : Records) : Type 0 where
  few : count d₁ j ≤ suc (count d j)
  same : (i k : ℕ) → (suc i ≡ count d₁ j → m ≤ k) → slot d₁ j i k ≡ slot d j i k

-- one of zeros
module _ (a j : ℕ) (d : Records) where
  abbrev adding : Act
  adding = record { adds = a; sec = 0; slot = 0; many = 0; a = 0; b = 0; c = 0; d = 0 }

  add-still : eqb a j ≡ false → count (add sections d a) j ≡ count d j
  unfolding applied
  add-still t = same_count adding d j (λ e. eqb-false a j t (sym e))

  add-begun : Good sections d → Begun 0 j d (add sections d a)
  unfolding applied
  add-begun g = record { few = by-section (eqb a j) refl; same = λ i k h. clear-slot adding d j i k (λ p. inr (omega arith)) } where
    by-room : (t : Bool) → ltb (count d a) (most_of sections a) ≡ t → count (add sections d a) a ≤ suc (count d a)
    by-room true t = omega (arith, one-record adding d g (ltb-true (count d a) (most_of sections a) t))
    by-room false t = rw t (omega arith)

    by-section : (t : Bool) → eqb a j ≡ t → count (add sections d a) j ≤ suc (count d j)
    by-section true t = rw (← eqb-true a j t) (by-room (ltb (count d a) (most_of sections a)) refl)
    by-section false t = omega (arith, add-still t)

-- one with a name
name-begun : (j a e h b : ℕ) (d : Records) → Good sections d → count d j < most_of sections j → Begun 4 j d (applied (new_record j 4 a e h b) d)
name-begun j a e h b d g l = record {
  few = omega (arith, one-record (new_record j 4 a e h b) d g l);
  same = λ i k f. by_last (applied (new_record j 4 a e h b) d) j (λ (n : ℕ). slot (applied (new_record j 4 a e h b) d) j n k ≡ slot d j n k) i
      (λ u. clear-slot (new_record j 4 a e h b) d j i k (λ p. inr (f u))) (other-slot (new_record j 4 a e h b) d j i k);
}

-- ---- the row

or-false : (a b : Bool) → (a || b) ≡ false → (a ≡ false) × (b ≡ false)
or-false false b h = (refl, h)
or-false true b h = absurd (false≢true (sym h))

-- a record more, and then what is written
turned_by : (m : ℕ) (qs : List Param) (j : ℕ) (r : Row) (d d₁ d' : Records) → head_of j r ≡ m → into j r ≡ qs → (grows j r ≡ false → count d₁ j ≡ count d j) → Begun m j d d₁
    → Good sections d₁ → Wrote qs j d₁ d' → Turned j r d d'
turned_by m qs j r d d₁ d' p q c b g w = record {
  still = λ t. w.stays ∙ c t;
  few = omega (arith, w.stays, b.few);
  same = λ i k h. w.same i k (λ e. (clear k (h (e ∙ sym w.stays))).1) ∙ b.same i k (λ e. (clear k (h (e ∙ sym w.stays))).0);
  filled = λ i k e n t. omega (arith, least k t, w.least g i k 0 (e ∙ w.stays) n (omega arith));
} where
  clear : (k : ℕ) → leaves j r k ≡ true → (m ≤ k) × (untouched qs k ≡ true)
  clear k h =
      let a : (leb m k && untouched qs k) ≡ true = rw (p, q) at h in
      (leb-true m k (and_left (leb m k) (untouched qs k) a), and_right (leb m k) (untouched qs k) a)

  least : (k : ℕ) → fills j r k ≡ true → 1 ≤ least_of qs k 0
  least k h =
      let a : (leb m k && leb 1 (least_of qs k 0)) ≡ true = rw (p, q) at h in
      leb-true 1 (least_of qs k 0) (and_right (leb m k) (leb 1 (least_of qs k 0)) a)

module _ (x : List ℕ) (home c : ℕ) (r : Row) (k : ℕ) (d : Records) (k' : ℕ) (d' : Records) (s : Stands x home c r k d k' d') (l : k ≤ length x) (g : Good sections d) (j : ℕ) where
  abbrev more : Records
  more = add sections d r.adds

  abbrev counter : List Param
  counter = cond (eqb r.sec j) (whole r.once 1 0 ∷ []) []

  counted-wrote : Wrote counter j more (counted r d)
  counted-wrote = wrote-left (whole r.once 1 0 ∷ []) r.sec j more (counted r d) (count_left d r)

  -- a count that is not kept
  uncounted : eqb r.once 0 ≡ true → (e : Records) → Wrote counter j e e
  unfolding kept wide_of
  uncounted o e =
      wrote-left (whole r.once 1 0 ∷ []) r.sec j e e
      (one_left (whole r.once 1 0) r.sec e e (record { a = 1; b = 0; c = 0; is = rw o; low = λ u. omega arith; past = λ u. absurd (omega arith) }))

  pub turned : eqb entry j ≡ false → fits j r ≡ true → Turned j r d d'
  turned n f = by_form (eqb (keeps r) j) (is_named r.params) refl refl where
    -- parameters that make no record
    by-parameters : (qs : List Param) → head_of j r ≡ 0 → into j r ≡ counter ++ qs → Wrote qs j (counted r d) d' → Turned j r d d'
    by-parameters qs p q w =
        turned_by 0 (counter ++ qs) j r d more d' p q (λ t. add-still r.adds j d (or-false (eqb r.adds j) (makes j r) t).0) (add-begun r.adds j d g)
        (good-add sections 0 d g r.adds) (wrote-both counter qs j more (counted r d) d' counted-wrote w)

    elsewhere : eqb (keeps r) j ≡ false → Wrote [] j (counted r d) d'
    elsewhere e =
        let a : Aside (keeps r) (counted r d) d' = filled-aside x c (keeps r) s.filled l in
        let p : j ≡ keeps r → ⊥ = λ z. eqb-false (keeps r) j e (sym z) in
        let q : j ≡ entry → ⊥ = λ z. eqb-false entry j n (sym z) in
        record { stays = a.counts j p q; good = a.good; same = λ i m h. a.same j i m p q; least = λ z i m o h w y. rw (a.same j i m p q) y }

    by_form : (t u : Bool) → eqb (keeps r) j ≡ t → is_named r.params ≡ u → Turned j r d d'
    by_form false u e v = by-parameters [] (rw e) (rw e) (elsewhere e)
    by_form true false e v =
        let p : are_plain r.params ≡ true = rw (e, v) at f in
        by-parameters r.params (rw (e, v)) (rw (e, v)) (rw e at (wrote-left r.params (keeps r) j (counted r d) d' (filled-left x c (keeps r) s.filled l p)))
    by_form true true e v =
        let p : (eqb r.once 0 && eqb r.adds none) ≡ true = rw (e, v) at f in
        let o : eqb r.once 0 ≡ true = and_left (eqb r.once 0) (eqb r.adds none) p in
        let m : Named c (keeps r) r.params d d' = rw (counted_none d r (and_right (eqb r.once 0) (eqb r.adds none) p) o) at (filled-named x c (keeps r) s.filled l v) in
        by_name (rw (eqb-true (keeps r) j e) at m) o where
          by_name : Named c j r.params d d' → eqb r.once 0 ≡ true → Turned j r d d'
          by_name m o =
              let act : Act = new_record j 4 m.from m.past (count d (holds r.params)) c in
              turned_by 4 (counter ++ rest r.params) j r d (applied act d) d' (rw (e, v)) (rw (e, v)) (λ t. absurd (false≢true (sym (rw (e, v) at (or-false (eqb r.adds j) (makes j r) t).1))))
              (name-begun j m.from m.past (count d (holds r.params)) c d g m.room) (good-applied 0 act d g)
              (wrote-both counter (rest r.params) j (applied act d) (applied act d) d' (uncounted o (applied act d)) (wrote-own (rest r.params) j (applied act d) d' m.left))
