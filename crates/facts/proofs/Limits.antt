-- "lower limit above upper" is refused: in every record that was read the limits are in order.
-- While a description is read they are so too, but for the last record of a section whose upper limit is still to come.
use Prim.Native.Nat.{ℕ, zero, suc, ◌+◌, ◌-◌, ◌≤◌, ◌<◌}
use mathlib.Core.Path.{◌≡◌, refl, sym, ◌∙◌}
use mathlib.Core.List.{List}
use mathlib.Core.Bool.{Bool, true, false, cond, not, ◌&&◌, ◌||◌, false≢true}
use mathlib.Core.Logic.{◌⊎◌, inl, inr}
use native.Mathlib.Omega.{arith}
use borrow.Author.Tests.{eqb-true, eqb-false, ltb-true, ltb-false, leb-false, eq-eqb, ne_eqb}
use lib.Dec.{ltb, leb, eqb}
use lib.ListN.{length}
use Rattle.text.specs.Answer.{given}
use Rattle.text.proofs.Within.{by-test, and_left, and_right, or_case}
use Rattle.convert.specs.Limit.{formed, at_most}
use Rattle.records.specs.Records.{width_of, count, slot}
use Rattle.records.proofs.Encode.{Good}
use Rattle.rows.specs.Codes.{FILE}
use Rattle.rows.specs.Sections.{sections, entry, object, axis, none}
use Rattle.rows.specs.Rows.{rows}
use Rattle.rows.specs.Numbered.{row_at, all_params, param_at}
use Rattle.grammar.specs.Move.{View, view, decimal_slots, state, items, idle, writes, applied}
use Rattle.grammar.specs.Parameter.{kind_of, slot_of, next_of, sec_of, keeping, new_record, decimal_in}
use Rattle.grammar.specs.Keyword.{counting}
use Rattle.grammar.specs.Read.{start, read}
use Rattle.grammar.specs.declared.state.State.{State}
use Rattle.grammar.specs.declared.state.Act.{Act}
use Rattle.facts.proofs.Slots.{clear-slot, other-slot, written-slot, same_count}
use Rattle.facts.proofs.Moves.{wide_of, three_of, Fits, Cases}
use Rattle.facts.proofs.Readings.{read_has}
use Rattle.facts.proofs.Tests.{of_param, each-param, of_row, each_row, implied, differ}

-- ---- what the tables say

-- an upper limit of a record of section j is to come, at parameter p or one after it, f of them at most
unfoldable upper_from : ℕ → ℕ → ℕ → Bool
upper_from zero j p = false
upper_from (suc f) j p = cond (eqb (param_at p).param.kind 10) (eqb (param_at p).sec j) (upper_from f j (param_at p).next)

-- the same at a parameter that makes no record, by its kind, its next and its section
unfoldable awaits_at : ℕ → ℕ → ℕ → ℕ → Bool
awaits_at j k n c = not (eqb k 6) && cond (eqb k 10) (eqb c j) (upper_from 10 j n)

unfoldable awaits : ℕ → ℕ → Bool
awaits j p = awaits_at j (param_at p).param.kind (param_at p).next (param_at p).sec

-- The tests, for section j with the lower limit from slot lo on. Where an upper limit is to come, it comes with this parameter or at the next
abbrev on_test : ℕ → ℕ → ℕ → ℕ → ℕ → Bool
on_test j k s n c = not (awaits_at j k n c) || (eqb k 10 || awaits j n)

-- and this one is neither how many pairs follow nor the text of a pair
abbrev pairs_test : ℕ → ℕ → ℕ → ℕ → ℕ → Bool
pairs_test j k s n c = not (awaits_at j k n c) || not (eqb k 11)

abbrev text_test : ℕ → ℕ → ℕ → ℕ → ℕ → Bool
text_test j k s n c = not (awaits_at j k n c) || not (eqb k 13)

-- an upper limit goes to its slots
abbrev upper_test : ℕ → ℕ → ℕ → ℕ → ℕ → ℕ → Bool
upper_test j lo k s n c = not (eqb k 10 && eqb c j) || eqb s (lo + 3)

-- a parameter goes to the limits' slots
unfoldable touches : ℕ → ℕ → ℕ → ℕ → ℕ → Bool
touches j lo k s c = eqb c j && (ltb lo (s + wide_of k) && leb s (lo + 5))

-- one that does is the upper limit, or one is to come at the next
abbrev kept_test : ℕ → ℕ → ℕ → ℕ → ℕ → ℕ → Bool
kept_test j lo k s n c = not (touches j lo k s c) || (eqb k 10 || not (eqb k 11) && awaits j n)

-- no keyword is counted in the limits' slots
abbrev once_test : ℕ → ℕ → ℕ → ℕ → Bool
once_test j lo c o = not (eqb c j) || (ltb o lo || ltb (lo + 5) o)

record Says (j lo : ℕ) : Type 0 where
  past : 4 ≤ lo
  wide : lo + 5 < width_of sections j
  other : j ≡ entry → ⊥
  some : j ≡ none → ⊥
  nothing : awaits j 0 ≡ false
  on : (p : ℕ) → of_param (on_test j) (param_at p) ≡ true
  pairless : (p : ℕ) → of_param (pairs_test j) (param_at p) ≡ true
  textless : (p : ℕ) → of_param (text_test j) (param_at p) ≡ true
  upper : (p : ℕ) → of_param (upper_test j lo) (param_at p) ≡ true
  kept : (p : ℕ) → of_param (kept_test j lo) (param_at p) ≡ true
  once : (i : ℕ) → of_row (once_test j lo) (row_at i) ≡ true

objects : Says object 13
unfolding sections rows all_params param_at upper_from awaits_at awaits touches wide_of
objects = record {
  past = omega arith;
  wide = omega arith;
  other = λ e. omega arith;
  some = λ e. omega arith;
  nothing = refl;
  on = each-param (on_test object) refl refl;
  pairless = each-param (pairs_test object) refl refl;
  textless = each-param (text_test object) refl refl;
  upper = each-param (upper_test object 13) refl refl;
  kept = each-param (kept_test object 13) refl refl;
  once = each_row (once_test object 13) refl refl;
}

axes : Says axis 7
unfolding sections rows all_params param_at upper_from awaits_at awaits touches wide_of
axes = record {
  past = omega arith;
  wide = omega arith;
  other = λ e. omega arith;
  some = λ e. omega arith;
  nothing = refl;
  on = each-param (on_test axis) refl refl;
  pairless = each-param (pairs_test axis) refl refl;
  textless = each-param (text_test axis) refl refl;
  upper = each-param (upper_test axis 7) refl refl;
  kept = each-param (kept_test axis 7) refl refl;
  once = each_row (once_test axis 7) refl refl;
}

-- ---- one step

-- the limits of record i are in order
abbrev pub Ordered : ℕ → ℕ → List (List (List ℕ)) → ℕ → Type 0
Ordered j lo d i = at_most (decimal_slots (view d) j i lo) (decimal_slots (view d) j i (lo + 3)) ≡ true

module _ (j lo : ℕ) (f : Says j lo) where
  module _ (p : ℕ) (w : awaits j p ≡ true) where
    goes_on : ((param_at p).param.kind ≡ 10) ⊎ (awaits j (param_at p).next ≡ true)
    unfolding awaits
    goes_on = by-case (or_case (eqb (param_at p).param.kind 10) (awaits j (param_at p).next) (implied (awaits j p) _ (f.on p) w)) where
      by-case : (eqb (param_at p).param.kind 10 ≡ true) ⊎ (awaits j (param_at p).next ≡ true) → ((param_at p).param.kind ≡ 10) ⊎ (awaits j (param_at p).next ≡ true)
      by-case (inl h) = inl (eqb-true (param_at p).param.kind 10 h)
      by-case (inr h) = inr h

    no_pairs : (param_at p).param.kind ≡ 11 → ⊥
    unfolding awaits
    no_pairs = differ (param_at p).param.kind 11 (implied (awaits j p) _ (f.pairless p) w)

    no_text : (param_at p).param.kind ≡ 13 → ⊥
    unfolding awaits
    no_text = differ (param_at p).param.kind 13 (implied (awaits j p) _ (f.textless p) w)

    -- one that comes with the parameter is of the section
    of-section : (param_at p).param.kind ≡ 10 → (param_at p).sec ≡ j
    unfolding awaits awaits_at
    of-section e = eqb-true (param_at p).sec j (rw e at w)

  calm-new : (p : ℕ) → (param_at p).param.kind ≡ 6 → awaits j p ≡ false
  unfolding awaits awaits_at
  calm-new p e = rw e

  calm-text : (p : ℕ) → (param_at p).param.kind ≡ 13 → awaits j p ≡ false
  calm-text p e = by_bit (awaits j p) refl where
    by_bit : (b : Bool) → awaits j p ≡ b → b ≡ false
    by_bit true w = absurd (no_text p w e)
    by_bit false w = refl

  upper-slot : (p : ℕ) → (param_at p).param.kind ≡ 10 → (param_at p).sec ≡ j → (param_at p).param.slot ≡ lo + 3
  upper-slot p e q =
      eqb-true (param_at p).param.slot (lo + 3)
      (implied (eqb (param_at p).param.kind 10 && eqb (param_at p).sec j) _ (f.upper p) (rw (eq-eqb (param_at p).param.kind 10 e, eq-eqb (param_at p).sec j q)))

  -- an act that writes none of the limits' slots
  abbrev Clear : Act → Type 0
  Clear a = (k : ℕ) → lo ≤ k → k ≤ lo + 5 → j ≡ a.sec → (k < a.slot) ⊎ (a.slot + a.many ≤ k)

  clear-idle : Clear idle
  clear-idle k l u e = inr (omega arith)

  clear-counting : (v : View) (i : ℕ) → Clear (counting v i)
  clear-counting v i =
      by-test Clear (eqb (row_at i).once 0) (λ t. clear-idle)
      (λ t k l u e. by_side (or_case _ _ (implied (eqb (row_at i).sec j) _ (f.once i) (eq-eqb (row_at i).sec j (sym e)))) k l u) where
        by_side : (ltb (row_at i).once lo ≡ true) ⊎ (ltb (lo + 5) (row_at i).once ≡ true) → (k : ℕ) → lo ≤ k → k ≤ lo + 5 → (k < (row_at i).once) ⊎ ((row_at i).once + 1 ≤ k)
        by_side (inl h) k l u = inr (omega (arith, ltb-true (row_at i).once lo h))
        by_side (inr h) k l u = inl (omega (arith, ltb-true (lo + 5) (row_at i).once h))

  -- a parameter that is kept is the upper limit, writes none of the limits' slots, or an upper limit is to come after it
  abbrev Aside : State → Act → Type 0
  Aside s a = ((kind_of s ≡ 10) × (sec_of s ≡ j)) ⊎ Clear a ⊎ ((kind_of s ≡ 11 → ⊥) × (awaits j (next_of s) ≡ true))

  module _ (s : State) (x y z : ℕ) where
    clear-writes : touches j lo (kind_of s) (slot_of s) (sec_of s) ≡ false → Clear (writes (sec_of s) (slot_of s) (wide_of (kind_of s)) x y z)
    unfolding touches
    clear-writes h k l u e = by_side (ltb lo (slot_of s + wide_of (kind_of s))) (leb (slot_of s) (lo + 5)) refl refl where
      by_side : (a b : Bool) → ltb lo (slot_of s + wide_of (kind_of s)) ≡ a → leb (slot_of s) (lo + 5) ≡ b → (k < slot_of s) ⊎ (slot_of s + wide_of (kind_of s) ≤ k)
      by_side false b p q = inr (omega (arith, ltb-false lo (slot_of s + wide_of (kind_of s)) p))
      by_side true false p q = inl (omega (arith, leb-false (slot_of s) (lo + 5) q))
      by_side true true p q = absurd (false≢true (sym (rw (eq-eqb (sec_of s) j (sym e), p, q) at h)))

    touching : touches j lo (kind_of s) (slot_of s) (sec_of s) ≡ true → Aside s (writes (sec_of s) (slot_of s) (wide_of (kind_of s)) x y z)
    unfolding touches
    touching h =
        by_kind (or_case (eqb (kind_of s) 10) (not (eqb (kind_of s) 11) && awaits j (next_of s)) (implied (touches j lo (kind_of s) (slot_of s) (sec_of s)) _ (f.kept s.param) h)) where
          by_kind : (eqb (kind_of s) 10 ≡ true) ⊎ ((not (eqb (kind_of s) 11) && awaits j (next_of s)) ≡ true) → Aside s (writes (sec_of s) (slot_of s) (wide_of (kind_of s)) x y z)
          by_kind (inl q) = inl (eqb-true (kind_of s) 10 q, eqb-true (sec_of s) j (and_left (eqb (sec_of s) j) _ h))
          by_kind (inr q) =
              inr (inr (differ (kind_of s) 11 (and_left (not (eqb (kind_of s) 11)) (awaits j (next_of s)) q), and_right (not (eqb (kind_of s) 11)) (awaits j (next_of s)) q))

    aside : Aside s (keeping s (wide_of (kind_of s)) x y z)
    unfolding keeping
    aside = by-test (Aside s) (eqb (slot_of s) 0) (λ t. inr (inl clear-idle)) (λ t. by-touch (touches j lo (kind_of s) (slot_of s) (sec_of s)) refl) where
      by-touch : (b : Bool) → touches j lo (kind_of s) (slot_of s) (sec_of s) ≡ b → Aside s (writes (sec_of s) (slot_of s) (wide_of (kind_of s)) x y z)
      by-touch true h = touching h
      by-touch false h = inr (inl (clear-writes h))

    adds_none : (keeping s (wide_of (kind_of s)) x y z).adds ≡ none
    unfolding keeping
    adds_none = by-test (λ (a : Act). a.adds ≡ none) (eqb (slot_of s) 0) (λ t. refl) (λ t. refl)

  -- limits whose slots are the same are in order as before
  same-order : (d d' : List (List (List ℕ))) (i : ℕ) → ((k : ℕ) → lo ≤ k → k ≤ lo + 5 → slot d' j i k ≡ slot d j i k) → Ordered j lo d i → Ordered j lo d' i
  same-order d d' i h o =
      rw (
        h lo (omega arith) (omega arith),
        h (lo + 1) (omega arith) (omega arith),
        h (lo + 2) (omega arith) (omega arith),
        h (lo + 3) (omega arith) (omega arith),
        h (lo + 3 + 1) (omega arith) (omega arith),
        h (lo + 3 + 2) (omega arith) (omega arith),
      ) o

  clear-order : (a : Act) → Clear a → (d : List (List (List ℕ))) (i : ℕ) → Ordered j lo d i → Ordered j lo (applied a d) i
  clear-order a c d i = same-order d (applied a d) i (λ k l u. clear-slot a d j i k (c k l u))

  other-order : (a : Act) (d : List (List (List ℕ))) (i : ℕ) → (suc i ≡ count (applied a d) j → ⊥) → Ordered j lo d i → Ordered j lo (applied a d) i
  other-order a d i h = same-order d (applied a d) i (λ k l u. other-slot a d j i k h)

  -- while a description is read
  abbrev Waiting : State → List (List (List ℕ)) → ℕ → Type 0
  Waiting s d i = Ordered j lo d i ⊎ ((suc i ≡ count d j) × (awaits j s.param ≡ true))

  abbrev Waits : State → List (List (List ℕ)) → Type 0
  Waits s d = (i : ℕ) → Waiting s d i

  module _ (n : ℕ) (s : State) (d : List (List (List ℕ))) (g : Good sections d) (inv : Waits s d) where
    -- where no upper limit is to come, and nothing is written to the limits' slots
    settled : awaits j s.param ≡ false → (i : ℕ) → Ordered j lo d i
    settled h i = by-case (inv i) where
      by-case : Waiting s d i → Ordered j lo d i
      by-case (inl o) = o
      by-case (inr w) = absurd (false≢true (sym h ∙ w.1))

    all-clear : awaits j s.param ≡ false → (t : State) (a : Act) → Clear a → Waits t (applied a d)
    all-clear h t a c i = inl (clear-order a c d i (settled h i))

    module _ (t : State) (a : Act) (m : j ≡ a.adds → ⊥) where
      -- where nothing is written to them, and an upper limit that was to come still is
      still : Clear a → (awaits j s.param ≡ true → awaits j t.param ≡ true) → Waits t (applied a d)
      still c w i = by-case (inv i) where
        by-case : Waiting s d i → Waiting t (applied a d) i
        by-case (inl o) = inl (clear-order a c d i o)
        by-case (inr q) = inr (q.0 ∙ sym (same_count a d j m), w q.1)

      -- the records before the last
      before : (i : ℕ) → eqb (suc i) (count (applied a d) j) ≡ false → Ordered j lo (applied a d) i
      before i h = by-case (inv i) where
        by-case : Waiting s d i → Ordered j lo (applied a d) i
        by-case (inl o) = other-order a d i (eqb-false (suc i) (count (applied a d) j) h) o
        by-case (inr q) = absurd (eqb-false (suc i) (count (applied a d) j) h (q.0 ∙ sym (same_count a d j m)))

      -- where an upper limit is to come, whatever is written
      to-come : awaits j t.param ≡ true → Waits t (applied a d)
      to-come w i = by_last (eqb (suc i) (count (applied a d) j)) refl where
        by_last : (b : Bool) → eqb (suc i) (count (applied a d) j) ≡ b → Waiting t (applied a d) i
        by_last true h = inr (eqb-true (suc i) (count (applied a d) j) h, w)
        by_last false h = inl (before i h)

      -- where the last record's limits are put in order
      put_right : ((i : ℕ) → suc i ≡ count (applied a d) j → Ordered j lo (applied a d) i) → Waits t (applied a d)
      put_right w i = by_last (eqb (suc i) (count (applied a d) j)) refl where
        by_last : (b : Bool) → eqb (suc i) (count (applied a d) j) ≡ b → Waiting t (applied a d) i
        by_last true h = inl (w i (eqb-true (suc i) (count (applied a d) j) h))
        by_last false h = inl (before i h)

    -- the upper limit of the last record
    module _ (x y z : ℕ) (u : at_most (decimal_in (view d) j lo) (three_of x y z) ≡ true) where
      upper-right : (i : ℕ) → suc i ≡ count (applied (writes j (lo + 3) 3 x y z) d) j → Ordered j lo (applied (writes j (lo + 3) 3 x y z) d) i
      upper-right i h =
          let a : Act = writes j (lo + 3) 3 x y z in
          let k₀ : slot (applied a d) j i lo ≡ slot d j i lo = clear-slot a d j i lo (λ e. inl (omega arith)) in
          let k₁ : slot (applied a d) j i (lo + 1) ≡ slot d j i (lo + 1) = clear-slot a d j i (lo + 1) (λ e. inl (omega arith)) in
          let k₂ : slot (applied a d) j i (lo + 2) ≡ slot d j i (lo + 2) = clear-slot a d j i (lo + 2) (λ e. inl (omega arith)) in
          let p : lo + 3 + 0 ≡ lo + 3 = omega arith in
          let l : lo + 5 < width_of sections j = f.wide in
          let k₃ : slot (applied a d) j i (lo + 3) ≡ x = rw p at (written-slot a d i 0 g h (omega arith) (omega arith)) in
          let k₄ : slot (applied a d) j i (lo + 3 + 1) ≡ y = written-slot a d i 1 g h (omega arith) (omega arith) in
          let k₅ : slot (applied a d) j i (lo + 3 + 2) ≡ z = written-slot a d i 2 g h (omega arith) (omega arith) in
          let q : i ≡ count d j - 1 = omega (arith, same_count a d j f.some) in
          rw (k₀, k₁, k₂, k₃, k₄, k₅, q) u

    module _ (t : State) (q : (kind_of s ≡ 11 → ⊥) → t.param ≡ next_of s) (x y z : ℕ) where
      adds : j ≡ (keeping s (wide_of (kind_of s)) x y z).adds → ⊥
      adds e = f.some (e ∙ adds_none s x y z)

      upper-act : kind_of s ≡ 10 → sec_of s ≡ j → keeping s (wide_of (kind_of s)) x y z ≡ writes j (lo + 3) 3 x y z
      unfolding keeping wide_of
      upper-act k c = rw (k, c, upper-slot s.param k c, ne_eqb (lo + 3) 0 (λ e. omega arith))

      upper-kept : Fits n (view d) s x y z → kind_of s ≡ 10 → sec_of s ≡ j → Waits t (applied (keeping s (wide_of (kind_of s)) x y z) d)
      upper-kept h k c =
          let l : slot_of s ≡ lo + 3 = upper-slot s.param k c in
          let p : slot_of s - 3 ≡ lo = omega arith in
          rw (upper-act k c) (put_right t (writes j (lo + 3) 3 x y z) f.some (upper-right x y z (rw (c, p) at (h.upper k))))

      other-kept : (kind_of s ≡ 10 → sec_of s ≡ j → ⊥) → Waits t (applied (keeping s (wide_of (kind_of s)) x y z) d)
      other-kept no-upper = by-case (aside s x y z) where
        next : awaits j s.param ≡ true → awaits j t.param ≡ true
        next w = rw (q (no_pairs s.param w)) (by_kind (goes_on s.param w)) where
          by_kind : (kind_of s ≡ 10) ⊎ (awaits j (next_of s) ≡ true) → awaits j (next_of s) ≡ true
          by_kind (inl e) = absurd (no-upper e (of-section s.param w e))
          by_kind (inr e) = e

        by-case : Aside s (keeping s (wide_of (kind_of s)) x y z) → Waits t (applied (keeping s (wide_of (kind_of s)) x y z) d)
        by-case (inl k) = absurd (no-upper k.0 k.1)
        by-case (inr (inl c)) = still t (keeping s (wide_of (kind_of s)) x y z) adds c next
        by-case (inr (inr w)) = to-come t (keeping s (wide_of (kind_of s)) x y z) adds (rw (q w.0) w.1)

      kept-right : Fits n (view d) s x y z → Waits t (applied (keeping s (wide_of (kind_of s)) x y z) d)
      kept-right h = by_kind (eqb (kind_of s) 10) (eqb (sec_of s) j) refl refl where
        by_kind : (a b : Bool) → eqb (kind_of s) 10 ≡ a → eqb (sec_of s) j ≡ b → Waits t (applied (keeping s (wide_of (kind_of s)) x y z) d)
        by_kind true true k c = upper-kept h (eqb-true (kind_of s) 10 k) (eqb-true (sec_of s) j c)
        by_kind true false k c = other-kept (λ e p. eqb-false (sec_of s) j c p)
        by_kind false b k c = other-kept (λ e p. eqb-false (kind_of s) 10 k e)

    paired : kind_of s ≡ 12 → (t : State) → t.param ≡ next_of s → (x y : ℕ) → Waits t (applied (new_record entry 2 x y 0 0) d)
    paired k t q x y = still t (new_record entry 2 x y 0 0) f.other (λ i l u e. absurd (f.other e)) (λ w. rw q (by_kind (goes_on s.param w))) where
      by_kind : (kind_of s ≡ 10) ⊎ (awaits j (next_of s) ≡ true) → awaits j (next_of s) ≡ true
      by_kind (inl e) = absurd (omega arith)
      by_kind (inr e) = e

    steps : Cases n (view d) s (λ t a. Waits t (applied a d))
    steps = record {
      passing = λ z t q. all-clear (rw z f.nothing) t idle clear-idle;
      standing = λ z t i. all-clear (rw z f.nothing) t (counting (view d) i) (clear-counting (view d) i);
      naming = λ k t a e l m. all-clear (calm-new s.param k) t (new_record (sec_of s) 4 a e (count d (slot_of s)) s.block) (λ i o u q. let p : 4 ≤ lo = f.past in inr (omega arith));
      keeps = λ t q x y z h. kept-right t q x y z h;
      pairing = paired;
      telling = λ k t a e l m. all-clear (calm-text s.param k) t (writes entry 2 2 a e 0) (λ i o u q. absurd (f.other q));
    }

  -- in every description that was read
  in_order_lem : (x : List ℕ) → Waits (state items FILE 0 0) start → (d : List (List (List ℕ))) → read x ≡ given d → (i : ℕ) → Ordered j lo d i
  in_order_lem x = read_has x Waits (λ d. (i : ℕ) → Ordered j lo d i) (λ s d g w. steps (length x) s d g w) (λ s d g z w. settled 0 s d g w (rw z f.nothing))

-- at the start there are no limits
pub object-limits : (x : List ℕ) (d : List (List (List ℕ))) → read x ≡ given d → (i : ℕ) → Ordered object 13 d i
unfolding start sections at_most formed
object-limits x = in_order_lem object 13 objects x (λ i. inl refl)

pub axis-limits : (x : List ℕ) (d : List (List (List ℕ))) → read x ≡ given d → (i : ℕ) → Ordered axis 7 d i
unfolding start sections at_most formed
axis-limits x = in_order_lem axis 7 axes x (λ i. inl refl)
