-- A table's first entry is one of those read, or the next: it is how many entries there were as the table's record was made.
use Prim.Native.Nat.{ℕ, suc, ◌+◌, ◌≤◌, ◌<◌}
use mathlib.Core.Path.{◌≡◌, refl, sym}
use mathlib.Core.List.{List}
use mathlib.Core.Bool.{Bool, true, false, not, ◌&&◌, ◌||◌}
use mathlib.Core.Logic.{◌⊎◌, inl, inr}
use native.Mathlib.Omega.{arith}
use borrow.Author.Tests.{eqb-true, eqb-false, ltb-true, leb-true, eq-eqb}
use lib.Dec.{ltb, leb, eqb}
use lib.ListN.{length}
use Rattle.text.specs.Answer.{given}
use Rattle.text.proofs.Within.{by-test, or_case}
use Rattle.records.specs.Records.{count, slot}
use Rattle.records.proofs.Encode.{Good}
use Rattle.rows.specs.Sections.{sections, table, entry}
use Rattle.rows.specs.Slots.{first_held}
use Rattle.rows.specs.Rows.{rows}
use Rattle.rows.specs.Numbered.{row_at, all_params, param_at}
use Rattle.grammar.specs.Move.{View, view, idle, writes, applied}
use Rattle.grammar.specs.Parameter.{kind_of, slot_of, sec_of, keeping, new_record}
use Rattle.grammar.specs.Keyword.{counting}
use Rattle.grammar.specs.Read.{read}
use Rattle.grammar.specs.declared.state.State.{State}
use Rattle.grammar.specs.declared.state.Act.{Act}
use Rattle.facts.proofs.Slots.{clear-slot, other-slot, written-slot, more-records, start-slot}
use Rattle.facts.proofs.Moves.{wide_of, Cases}
use Rattle.facts.proofs.Readings.{read_has}
use Rattle.facts.proofs.Tests.{of_param, each-param, of_row, each_row, implied}

-- ---- what the tables say

-- a table's name makes a record that holds entries
abbrev new_test : ℕ → ℕ → ℕ → ℕ → Bool
new_test k s n c = not (eqb k 6 && eqb c table) || eqb s entry

-- no parameter goes to slot 2 of a table, and no keyword is counted there
abbrev kept_test : ℕ → ℕ → ℕ → ℕ → Bool
kept_test k s n c = not (eqb c table) || (ltb 2 s || leb (s + wide_of k) 2)

abbrev once_test : ℕ → ℕ → Bool
once_test c o = not (eqb c table) || (ltb 2 o || leb (o + 1) 2)

holds-entries : (p : ℕ) → of_param new_test (param_at p) ≡ true
unfolding rows all_params
holds-entries = each-param new_test refl refl

none_kept : (p : ℕ) → of_param kept_test (param_at p) ≡ true
unfolding rows all_params wide_of
none_kept = each-param kept_test refl refl

none-counted : (i : ℕ) → of_row once_test (row_at i) ≡ true
unfolding rows
none-counted = each_row once_test refl refl

-- ---- one step

-- an act that does not write slot 2 of a table
abbrev Clear : Act → Type 0
Clear a = table ≡ a.sec → (2 < a.slot) ⊎ (a.slot + a.many ≤ 2)

clear-idle : Clear idle
clear-idle e = inr (omega arith)

by_side : (s w : ℕ) → (ltb 2 s ≡ true) ⊎ (leb (s + w) 2 ≡ true) → (2 < s) ⊎ (s + w ≤ 2)
by_side s w (inl h) = inl (ltb-true 2 s h)
by_side s w (inr h) = inr (leb-true (s + w) 2 h)

clear-counting : (v : View) (i : ℕ) → Clear (counting v i)
clear-counting v i =
    by-test Clear (eqb (row_at i).once 0) (λ t. clear-idle)
    (λ t e. by_side (row_at i).once 1 (or_case (ltb 2 (row_at i).once) _ (implied (eqb (row_at i).sec table) _ (none-counted i) (eq-eqb (row_at i).sec table (sym e)))))

clear-keeping : (s : State) (x y z : ℕ) → Clear (keeping s (wide_of (kind_of s)) x y z)
unfolding keeping
clear-keeping s x y z =
    by-test Clear (eqb (slot_of s) 0) (λ t. clear-idle)
    (λ t e. by_side (slot_of s) (wide_of (kind_of s)) (or_case (ltb 2 (slot_of s)) _ (implied (eqb (sec_of s) table) _ (none_kept s.param) (eq-eqb (sec_of s) table (sym e)))))

abbrev Firsts : List (List (List ℕ)) → Type 0
Firsts d = (i : ℕ) → slot d table i first_held ≤ count d entry

module _ (n : ℕ) (s : State) (d : List (List (List ℕ))) (g : Good sections d) (inv : Firsts d) where
  cleared : (a : Act) → Clear a → Firsts (applied a d)
  cleared a c i = rw (clear-slot a d table i 2 c) (omega (arith, inv i, more-records a d entry))

  -- a new table
  module _ (x y z : ℕ) where
    begun : Firsts (applied (new_record table 4 x y (count d entry) z) d)
    unfolding sections
    begun i = by_last (eqb (suc i) (count (applied (new_record table 4 x y (count d entry) z) d) table)) refl where
      act : Act
      act = new_record table 4 x y (count d entry) z

      by_last : (b : Bool) → eqb (suc i) (count (applied act d) table) ≡ b → slot (applied act d) table i first_held ≤ count (applied act d) entry
      by_last true q =
          let h : slot (applied act d) table i first_held ≡ count d entry = written-slot act d i 2 g (eqb-true (suc i) (count (applied act d) table) q) (omega arith) (omega arith) in
          omega (arith, more-records act d entry)
      by_last false q =
          rw (other-slot act d table i 2 (eqb-false (suc i) (count (applied act d) table) q)) (omega (arith, inv i, more-records act d entry))

  named : kind_of s ≡ 6 → (x y z : ℕ) → Firsts (applied (new_record (sec_of s) 4 x y (count d (slot_of s)) z) d)
  named k x y z = by-section (eqb (sec_of s) table) refl where
    by-section : (b : Bool) → eqb (sec_of s) table ≡ b → Firsts (applied (new_record (sec_of s) 4 x y (count d (slot_of s)) z) d)
    by-section true c =
        let e : slot_of s ≡ entry = eqb-true (slot_of s) entry (implied (eqb (kind_of s) 6 && eqb (sec_of s) table) _ (holds-entries s.param) (rw (eq-eqb (kind_of s) 6 k, c))) in
        let q : sec_of s ≡ table = eqb-true (sec_of s) table c in
        rw (e, q) (begun x y z)
    by-section false c = cleared (new_record (sec_of s) 4 x y (count d (slot_of s)) z) (λ q. absurd (eqb-false (sec_of s) table c (sym q)))

  steps : Cases n (view d) s (λ t a. Firsts (applied a d))
  steps = record {
    passing = λ z t q. cleared idle clear-idle;
    standing = λ z t i. cleared (counting (view d) i) (clear-counting (view d) i);
    naming = λ k t a e l m. named k a e s.block;
    keeps = λ t q x y z h. cleared (keeping s (wide_of (kind_of s)) x y z) (clear-keeping s x y z);
    pairing = λ k t q a b. cleared (new_record entry 2 a b 0 0) (λ e. absurd (omega arith));
    telling = λ k t a e l m. cleared (writes entry 2 2 a e 0) (λ e. absurd (omega arith));
  }

-- in every description that was read
pub first_read : (x : List ℕ) (d : List (List (List ℕ))) → read x ≡ given d → (i : ℕ) → slot d table i first_held ≤ count d entry
first_read x = read_has x (λ s. Firsts) Firsts (λ s d g w. steps (length x) s d g w) (λ s d g z w. w) (λ i. rw (start-slot table i 2) (omega arith))
