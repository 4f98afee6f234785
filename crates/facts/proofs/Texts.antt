-- Every text that the records keep, a name, a default or the text of a pair, lies inside the description, its first byte not past its end.
use Prim.Native.Nat.{ℕ, suc, ◌+◌, ◌≤◌, ◌<◌}
use mathlib.Core.Path.{◌≡◌, refl, sym, ◌∙◌, ap}
use mathlib.Core.List.{List}
use mathlib.Core.Bool.{Bool, true, false, not, ◌&&◌, ◌||◌, false≢true}
use mathlib.Core.Logic.{◌⊎◌, inl, inr}
use native.Mathlib.Omega.{arith}
use borrow.Author.Tests.{eqb-true, eqb-false, ltb-true, ltb-false, leb-true, leb-false, eq-eqb}
use lib.Dec.{ltb, leb, eqb}
use lib.ListN.{length, get_or}
use Rattle.text.specs.Answer.{given}
use Rattle.text.proofs.Within.{by-test, and_left, and_right, or_case}
use Rattle.records.specs.Records.{width_of, count, slot}
use Rattle.records.proofs.Encode.{Good}
use Rattle.rows.specs.Sections.{sections, method, table, entry, layout, object, axis}
use Rattle.rows.specs.Rows.{rows}
use Rattle.rows.specs.Numbered.{row_at, all_params, param_at}
use Rattle.grammar.specs.Move.{View, view, idle, writes, values, applied}
use Rattle.grammar.specs.Parameter.{kind_of, slot_of, sec_of, keeping, new_record}
use Rattle.grammar.specs.Keyword.{counting}
use Rattle.grammar.specs.Read.{read}
use Rattle.grammar.specs.declared.state.State.{State}
use Rattle.grammar.specs.declared.state.Act.{Act}
use Rattle.facts.specs.Facts.{Inside}
use Rattle.facts.proofs.Slots.{clear-slot, other-slot, written-slot, start-slot}
use Rattle.facts.proofs.Moves.{wide_of, Fits, Cases}
use Rattle.facts.proofs.Readings.{read_has}
use Rattle.facts.proofs.Tests.{every, of_param, each-param, of_row, each_row, implied}

-- ---- what the tables say of the text in slots k and k + 1 of section j

-- a parameter goes to one of the two slots
unfoldable pub touches : ℕ → ℕ → ℕ → ℕ → ℕ → Bool
touches j k w s c = eqb c j && (not (eqb s 0) && (ltb k (s + wide_of w) && leb s (k + 1)))

-- one that does is a text that goes to both
abbrev kept_test : ℕ → ℕ → ℕ → ℕ → ℕ → ℕ → Bool
kept_test j k w s n c = not (touches j k w s c) || eqb (wide_of w) 2 && eqb s k

-- a new record's first four slots hold its name, or none of the two
abbrev new_test : ℕ → ℕ → ℕ → ℕ → ℕ → ℕ → Bool
new_test j k w s n c = not (eqb w 6 && eqb c j) || (eqb k 0 || leb 4 k)

-- no keyword is counted in the two slots
abbrev once_test : ℕ → ℕ → ℕ → ℕ → Bool
once_test j k c o = not (eqb c j) || (eqb o 0 || (ltb o k || ltb (k + 1) o))

-- an entry's first two slots hold its number, the next two its text
abbrev entry_test : ℕ → ℕ → Bool
entry_test j k = not (eqb j entry) || (eqb k 2 || leb 4 k)

-- the tables keep a text in the two slots, and nothing else
unfoldable pub is_text : ℕ → ℕ → Bool
is_text j k =
    (ltb (k + 1) (width_of sections j) && entry_test j k)
    && ((kept_test j k 0 0 0 0 && every (of_param (kept_test j k)) all_params)
    && ((new_test j k 0 0 0 0 && every (of_param (new_test j k)) all_params)
    && (once_test j k 0 0 && every (of_row (once_test j k)) rows)))

both : (a b : Bool) → (a && b) ≡ true → (a ≡ true) × (b ≡ true)
both a b h = (and_left a b h, and_right a b h)

record Says (j k : ℕ) : Type 0 where
  wide : k + 1 < width_of sections j
  pair : entry_test j k ≡ true
  kept : (p : ℕ) → of_param (kept_test j k) (param_at p) ≡ true
  new : (p : ℕ) → of_param (new_test j k) (param_at p) ≡ true
  once : (i : ℕ) → of_row (once_test j k) (row_at i) ≡ true

says : (j k : ℕ) → is_text j k ≡ true → Says j k
unfolding is_text
says j k h =
    let a = both (ltb (k + 1) (width_of sections j) && entry_test j k) _ h in
    let b = both (ltb (k + 1) (width_of sections j)) (entry_test j k) a.0 in
    let c = both (kept_test j k 0 0 0 0 && every (of_param (kept_test j k)) all_params) _ a.1 in
    let e = both (kept_test j k 0 0 0 0) (every (of_param (kept_test j k)) all_params) c.0 in
    let l = both (new_test j k 0 0 0 0 && every (of_param (new_test j k)) all_params) (once_test j k 0 0 && every (of_row (once_test j k)) rows) c.1 in
    let m = both (new_test j k 0 0 0 0) (every (of_param (new_test j k)) all_params) l.0 in
    let o = both (once_test j k 0 0) (every (of_row (once_test j k)) rows) l.1 in
    record {
      wide = ltb-true (k + 1) (width_of sections j) b.0;
      pair = b.1;
      kept = each-param (kept_test j k) e.0 e.1;
      new = each-param (new_test j k) m.0 m.1;
      once = each_row (once_test j k) o.0 o.1;
    }

-- ---- one step

-- inside the description, and with a byte where there is an end
abbrev pub Told : ℕ → ℕ → ℕ → Type 0
Told n a e = Inside n a e × ((e ≡ 0 → ⊥) → a < e)

some-told : (n a e : ℕ) → a < e → e ≤ n → Told n a e
some-told n a e l m = ((omega arith, m), λ z. l)

module _ (j k : ℕ) (f : Says j k) where
  -- an act that writes neither of the two slots
  abbrev Clear : Act → Type 0
  Clear a = j ≡ a.sec → (k + 1 < a.slot) ⊎ (a.slot + a.many ≤ k)

  clear-idle : Clear idle
  clear-idle e = inr (omega arith)

  clear-counting : (v : View) (i : ℕ) → Clear (counting v i)
  clear-counting v i = by-test Clear (eqb (row_at i).once 0) (λ t. clear-idle) (λ t e. by_none t (or_case (eqb (row_at i).once 0) _ (counted e))) where
    counted : j ≡ (row_at i).sec → (eqb (row_at i).once 0 || (ltb (row_at i).once k || ltb (k + 1) (row_at i).once)) ≡ true
    counted e = implied (eqb (row_at i).sec j) _ (f.once i) (eq-eqb (row_at i).sec j (sym e))

    by_side : (ltb (row_at i).once k ≡ true) ⊎ (ltb (k + 1) (row_at i).once ≡ true) → (k + 1 < (row_at i).once) ⊎ ((row_at i).once + 1 ≤ k)
    by_side (inl h) = inr (omega (arith, ltb-true (row_at i).once k h))
    by_side (inr h) = inl (ltb-true (k + 1) (row_at i).once h)

    by_none : eqb (row_at i).once 0 ≡ false → (eqb (row_at i).once 0 ≡ true) ⊎ ((ltb (row_at i).once k || ltb (k + 1) (row_at i).once) ≡ true) → (k + 1 < (row_at i).once) ⊎ ((row_at i).once + 1 ≤ k)
    by_none t (inl h) = absurd (false≢true (sym t ∙ h))
    by_none t (inr h) = by_side (or_case (ltb (row_at i).once k) (ltb (k + 1) (row_at i).once) h)

  clear-pair : (a b : ℕ) → Clear (new_record entry 2 a b 0 0)
  clear-pair a b e = by-slot (or_case (eqb k 2) (leb 4 k) (implied (eqb j entry) _ f.pair (eq-eqb j entry e))) where
    by-slot : (eqb k 2 ≡ true) ⊎ (leb 4 k ≡ true) → (k + 1 < 0) ⊎ (2 ≤ k)
    by-slot (inl h) = inr (omega (arith, eqb-true k 2 h))
    by-slot (inr h) = inr (omega (arith, leb-true 4 k h))

  -- a text in the two slots of every record
  abbrev Texts : ℕ → List (List (List ℕ)) → Type 0
  Texts n d = (i : ℕ) → Told n (slot d j i k) (slot d j i (k + 1))

  module _ (n : ℕ) (s : State) (d : List (List (List ℕ))) (g : Good sections d) (inv : Texts n d) where
    cleared : (a : Act) → Clear a → Texts n (applied a d)
    cleared a c i = rw (clear-slot a d j i k (λ e. below (c e)), clear-slot a d j i (k + 1) (λ e. beside (c e))) (inv i) where
      below : (k + 1 < a.slot) ⊎ (a.slot + a.many ≤ k) → (k < a.slot) ⊎ (a.slot + a.many ≤ k)
      below (inl l) = inl (omega arith)
      below (inr l) = inr l

      beside : (k + 1 < a.slot) ⊎ (a.slot + a.many ≤ k) → (k + 1 < a.slot) ⊎ (a.slot + a.many ≤ k + 1)
      beside (inl l) = inl l
      beside (inr l) = inr (omega arith)

    -- an act that writes a text in the two slots
    told : (a : Act) → a.sec ≡ j → a.slot ≡ k → 1 < length (values a) → Told n (get_or (values a) 0 0) (get_or (values a) 1 0) → Texts n (applied a d)
    told a c l m h i = by_last (eqb (suc i) (count (applied a d) j)) refl where
      by_last : (b : Bool) → eqb (suc i) (count (applied a d) j) ≡ b → Told n (slot (applied a d) j i k) (slot (applied a d) j i (k + 1))
      by_last true q =
          let e : suc i ≡ count (applied a d) a.sec = eqb-true (suc i) (count (applied a d) j) q ∙ ap (count (applied a d)) (sym c) in
          let w : k + 1 < width_of sections a.sec = rw c f.wide in
          let z : a.slot + 0 ≡ a.slot = omega arith in
          let u : slot (applied a d) a.sec i a.slot ≡ get_or (values a) 0 0 = rw z at (written-slot a d i 0 g e (omega arith) (omega arith)) in
          let v : slot (applied a d) a.sec i (a.slot + 1) ≡ get_or (values a) 1 0 = written-slot a d i 1 g e (omega arith) m in
          rw (← c, ← l, u, v) h
      by_last false q =
          rw (other-slot a d j i k (eqb-false (suc i) (count (applied a d) j) q), other-slot a d j i (k + 1) (eqb-false (suc i) (count (applied a d) j) q)) (inv i)

    named : kind_of s ≡ 6 → (a e : ℕ) → a < e → e ≤ n → Texts n (applied (new_record (sec_of s) 4 a e (count d (slot_of s)) s.block) d)
    named w a e l m = by-section (eqb (sec_of s) j) refl where
      act : Act
      act = new_record (sec_of s) 4 a e (count d (slot_of s)) s.block

      by-slot : sec_of s ≡ j → (eqb k 0 ≡ true) ⊎ (leb 4 k ≡ true) → Texts n (applied act d)
      by-slot c (inl h) = told act c (sym (eqb-true k 0 h)) (omega arith) (some-told n a e l m)
      by-slot c (inr h) = cleared act (λ q. inr (leb-true 4 k h))

      by-section : (b : Bool) → eqb (sec_of s) j ≡ b → Texts n (applied act d)
      by-section true c =
          by-slot (eqb-true (sec_of s) j c) (or_case (eqb k 0) (leb 4 k) (implied (eqb (kind_of s) 6 && eqb (sec_of s) j) _ (f.new s.param) (rw (eq-eqb (kind_of s) 6 w, c))))
      by-section false c = cleared act (λ q. absurd (eqb-false (sec_of s) j c (sym q)))

    module _ (x y z : ℕ) (h : Fits n (view d) s x y z) where
      clear-writes : touches j k (kind_of s) (slot_of s) (sec_of s) ≡ false → eqb (slot_of s) 0 ≡ false → Clear (writes (sec_of s) (slot_of s) (wide_of (kind_of s)) x y z)
      unfolding touches
      clear-writes t o e = by_side (ltb k (slot_of s + wide_of (kind_of s))) (leb (slot_of s) (k + 1)) refl refl where
        by_side : (a b : Bool) → ltb k (slot_of s + wide_of (kind_of s)) ≡ a → leb (slot_of s) (k + 1) ≡ b → (k + 1 < slot_of s) ⊎ (slot_of s + wide_of (kind_of s) ≤ k)
        by_side false b p q = inr (ltb-false k (slot_of s + wide_of (kind_of s)) p)
        by_side true false p q = inl (leb-false (slot_of s) (k + 1) q)
        by_side true true p q = absurd (false≢true (sym (rw (eq-eqb (sec_of s) j (sym e), o, p, q) at t)))

      touching : touches j k (kind_of s) (slot_of s) (sec_of s) ≡ true → Texts n (applied (writes (sec_of s) (slot_of s) (wide_of (kind_of s)) x y z) d)
      unfolding touches
      touching t =
          let q : (eqb (wide_of (kind_of s)) 2 && eqb (slot_of s) k) ≡ true = implied (touches j k (kind_of s) (slot_of s) (sec_of s)) _ (f.kept s.param) t in
          let w : wide_of (kind_of s) ≡ 2 = eqb-true (wide_of (kind_of s)) 2 (and_left (eqb (wide_of (kind_of s)) 2) (eqb (slot_of s) k) q) in
          rw w (told (writes (sec_of s) (slot_of s) 2 x y z) (eqb-true (sec_of s) j (and_left (eqb (sec_of s) j) _ t))
          (eqb-true (slot_of s) k (and_right (eqb (wide_of (kind_of s)) 2) (eqb (slot_of s) k) q)) (omega arith) (some-told n x y (h.words w).0 (h.words w).1))

      kept-text : Texts n (applied (keeping s (wide_of (kind_of s)) x y z) d)
      unfolding keeping
      kept-text = by-test (λ (a : Act). Texts n (applied a d)) (eqb (slot_of s) 0) (λ t. cleared idle clear-idle) (λ t. by-touch t (touches j k (kind_of s) (slot_of s) (sec_of s)) refl) where
        by-touch : eqb (slot_of s) 0 ≡ false → (b : Bool) → touches j k (kind_of s) (slot_of s) (sec_of s) ≡ b → Texts n (applied (writes (sec_of s) (slot_of s) (wide_of (kind_of s)) x y z) d)
        by-touch o true t = touching t
        by-touch o false t = cleared (writes (sec_of s) (slot_of s) (wide_of (kind_of s)) x y z) (clear-writes t o)

    pair-text : (a e : ℕ) → a < e → e ≤ n → Texts n (applied (writes entry 2 2 a e 0) d)
    pair-text a e l m = by-section (eqb j entry) refl where
      by-slot : j ≡ entry → (eqb k 2 ≡ true) ⊎ (leb 4 k ≡ true) → Texts n (applied (writes entry 2 2 a e 0) d)
      by-slot c (inl h) = told (writes entry 2 2 a e 0) (sym c) (sym (eqb-true k 2 h)) (omega arith) (some-told n a e l m)
      by-slot c (inr h) = cleared (writes entry 2 2 a e 0) (λ q. inr (leb-true 4 k h))

      by-section : (b : Bool) → eqb j entry ≡ b → Texts n (applied (writes entry 2 2 a e 0) d)
      by-section true c = by-slot (eqb-true j entry c) (or_case (eqb k 2) (leb 4 k) (implied (eqb j entry) _ f.pair c))
      by-section false c = cleared (writes entry 2 2 a e 0) (λ q. absurd (eqb-false j entry c q))

    steps : Cases n (view d) s (λ t a. Texts n (applied a d))
    steps = record {
      passing = λ z t q. cleared idle clear-idle;
      standing = λ z t i. cleared (counting (view d) i) (clear-counting (view d) i);
      naming = λ w t a e l m. named w a e l m;
      keeps = λ t q x y z h. kept-text x y z h;
      pairing = λ w t q a b. cleared (new_record entry 2 a b 0 0) (clear-pair a b);
      telling = λ w t a e l m. pair-text a e l m;
    }

-- a move whose end is at most n keeps the texts that end there or before
pub text-cases : (j k : ℕ) → is_text j k ≡ true → (n : ℕ) (s : State) (d : List (List (List ℕ))) → Good sections d → ((i : ℕ) → Told n (slot d j i k) (slot d j i (k + 1)))
    → Cases n (view d) s (λ t a. (i : ℕ) → Told n (slot (applied a d) j i k) (slot (applied a d) j i (k + 1)))
text-cases j k h n s d g w = steps j k (says j k h) n s d g w

-- in every description that was read
text-told : (j k : ℕ) → is_text j k ≡ true → (x : List ℕ) (d : List (List (List ℕ))) → read x ≡ given d → (i : ℕ) → Told (length x) (slot d j i k) (slot d j i (k + 1))
text-told j k h x =
    read_has x (λ s. Texts j k (says j k h) (length x)) (Texts j k (says j k h) (length x)) (λ s d g w. steps j k (says j k h) (length x) s d g w) (λ s d g z w. w)
    (λ i. rw (start-slot j i k, start-slot j i (k + 1)) ((omega arith, omega arith), λ z. absurd (z refl)))

pub text-inside : (j k : ℕ) → is_text j k ≡ true → (x : List ℕ) (d : List (List (List ℕ))) → read x ≡ given d → (i : ℕ) → Inside (length x) (slot d j i k) (slot d j i (k + 1))
text-inside j k h x d r i = (text-told j k h x d r i).0

-- a text that is there has a byte
pub text-some : (j k : ℕ) → is_text j k ≡ true → (x : List ℕ) (d : List (List (List ℕ))) → read x ≡ given d → (i : ℕ) → (slot d j i (k + 1) ≡ 0 → ⊥) → slot d j i k < slot d j i (k + 1)
text-some j k h x d r i z = (text-told j k h x d r i).1 z

-- ---- the texts

pub method-name : is_text method 0 ≡ true
unfolding is_text touches wide_of sections rows all_params
method-name = refl

pub table-name : is_text table 0 ≡ true
unfolding is_text touches wide_of sections rows all_params
table-name = refl

pub layout-name : is_text layout 0 ≡ true
unfolding is_text touches wide_of sections rows all_params
layout-name = refl

pub object-name : is_text object 0 ≡ true
unfolding is_text touches wide_of sections rows all_params
object-name = refl

pub table-default : is_text table 7 ≡ true
unfolding is_text touches wide_of sections rows all_params
table-default = refl

pub pair-told : is_text entry 2 ≡ true
unfolding is_text touches wide_of sections rows all_params
pair-told = refl

-- the names of references too
pub reference-names : (is_text method 26 && (is_text object 6 && (is_text object 8 && (is_text object 10 && (is_text axis 2 && (is_text axis 4 && is_text axis 14)))))) ≡ true
unfolding is_text touches wide_of sections rows all_params
reference-names = refl
