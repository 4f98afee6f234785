-- The search for a name: what its two loops keep, and what a turn of each does.
use Prim.Native.Nat.{ℕ, zero, suc, ◌+◌, ◌-◌, ◌*◌, ◌^◌, ◌≤◌, ◌<◌}
use mathlib.Core.Path.{◌≡◌, refl, sym, ◌∙◌, ap}
use mathlib.Core.List.{List}
use mathlib.Core.Bool.{true, false, cond, and-false}
use native.Mathlib.Omega.{arith}
use native.Mathlib.Nat.{mul-zero, mul-suc}
use borrow.Author.Rules.{rules}
use borrow.Author.Tests.{lt-ltb, lt-leb}
use lib.Dec.{leb, ltb}
use lib.ListN.{get_or}
use Rattle.text.specs.Bytes.{same_part}
use Rattle.text.proofs.LikeLaws.{compare-start, compare-all}
use Rattle.records.specs.Cells.{place, section_in, count_in, slot_in}
use Rattle.records.specs.Records.{width_of, most_of}
use Rattle.records.specs.declared.Section.{Section}
use Rattle.records.proofs.OpLaws.{product, slot-there}
use Rattle.rows.specs.Slots.{own_name, own_name_past}
use Rattle.rows.specs.Sections.{sections}
use Rattle.grammar.specs.Move.{view_in}
use Rattle.grammar.specs.Parameter.{find_from, find}

-- a section that may have a record has room for its name
wide : (j i : ℕ) → i < most_of sections j → 1 < width_of sections j
unfolding sections
wide zero i h = omega arith
wide (suc zero) i h = omega arith
wide (suc (suc zero)) i h = omega arith
wide (suc (suc (suc zero))) i h = omega arith
wide (suc (suc (suc (suc zero)))) i h = omega arith
wide (suc (suc (suc (suc (suc zero))))) i h = omega arith
wide (suc (suc (suc (suc (suc (suc zero)))))) i h = omega arith
wide (suc (suc (suc (suc (suc (suc (suc j))))))) i h = omega arith

-- the search from record i on, whose first cell is at, answers what the whole search answers
pub record Seeking (x t : List ℕ) (j a e : ℕ) (c : Section) (i at : ℕ) : Type 0 where
  pub within : i ≤ (view_in t).counts j
  pub here : at ≡ place c i 0
  pub goes : find_from ((view_in t).counts j - i) x (view_in t) j i a e ≡ find x (view_in t) j a e

module _ (x t : List ℕ) (j a e : ℕ) where
  none-turned : e < a → (n i : ℕ) → find_from n x (view_in t) j i a e ≡ 0
  unfolding find_from same_part
  none-turned h zero i = refl
  none-turned h (suc n) i = rw (lt-leb a e h, and-false (leb ((view_in t).slots j i own_name) ((view_in t).slots j i own_name_past)), none-turned h n (suc i))

  pub seek-turned : e < a → 0 ≡ find x (view_in t) j a e
  seek-turned h = sym (none-turned h ((view_in t).counts j) 0)

  pub seek-start : (c : Section) → Seeking x t j a e c 0 (c.base + 1)
  seek-start c =
      let z : (view_in t).counts j - 0 ≡ (view_in t).counts j = omega arith in
      let m : c.base + 1 ≡ place c 0 0 = omega (arith, mul-zero c.width) in
      record { within = omega arith; here = m; goes = ap (λ n. find_from n x (view_in t) j 0 a e) z }

  -- c is the section with the number j, and n how many records it has
  module _ (c : Section) (pc : c ≡ section_in sections j) (n : ℕ) (pn : n ≡ count_in t c) where
    counted : n ≡ (view_in t).counts j
    counted = pn ∙ ap (count_in t) pc

    module _ (i at : ℕ) (q : Seeking x t j a e c i at) where
      pub seek-end : n ≤ i → 0 ≡ find x (view_in t) j a e
      unfolding find_from
      seek-end h = let z : (view_in t).counts j - i ≡ 0 = omega (arith, counted) in rw z at q.goes

      -- a record's first cells are not far
      pub seek-near : c.base < 2 ^ 32 → c.width < 2 ^ 8 → i < 2 ^ 16 → at + 2 ^ 8 < 2 ^ 64
      seek-near b w l = omega (arith, q.here, product c.width i w l)

      module _ (h : i < n) where
        look : cond (same_part x ((view_in t).slots j i own_name) ((view_in t).slots j i own_name_past) x a e) (suc i) (find_from ((view_in t).counts j - (i + 1)) x (view_in t) j (suc i) a e) ≡ find x (view_in t) j a e
        unfolding find_from
        look = let z : (view_in t).counts j - i ≡ suc ((view_in t).counts j - (i + 1)) = omega (arith, counted) in rw z at q.goes

        few : i < c.most
        unfolding count_in
        few = omega (arith, pn)

        cell : (k : ℕ) → k < 2 → (f : ℕ) → f ≡ get_or t (at + k) 0 → f ≡ (view_in t).slots j i k
        cell k l f p =
            let m : ltb i c.most ≡ true = lt-ltb i c.most few in
            let w : ltb k c.width ≡ true = lt-ltb k c.width (omega (arith, wide j i (rw pc at few), ap (λ d. d.width) pc)) in
            let z : at + k ≡ place c i k = omega (arith, q.here) in
            slot-there t c i k (at + k) f (rw (m, w)) z p ∙ ap (λ d. slot_in t d i k) pc

        module _ (f u : ℕ) (pf : f ≡ get_or t at 0) (pu : u ≡ get_or t (at + 1) 0) where
          named-from : f ≡ (view_in t).slots j i own_name
          named-from = let z : at + 0 ≡ at = omega arith in cell 0 (omega arith) f (pf ∙ rw z)

          named-to : u ≡ (view_in t).slots j i own_name_past
          named-to = cell 1 (omega arith) u pu

          pub seek-on : false ≡ same_part x f u x a e → Seeking x t j a e c (i + 1) (at + c.width)
          seek-on d =
              let k : suc i ≡ i + 1 = omega arith in
              let m : at + c.width ≡ place c (i + 1) 0 = omega (arith, q.here, mul-suc c.width i, ap (λ z. c.width * z) k) in
              record { within = omega (arith, counted); here = m; goes = rw (← named-from, ← named-to, ← d, k) at look }

          pub seek_found : true ≡ same_part x f u x a e → suc i ≡ find x (view_in t) j a e
          seek_found d = rw (← named-from, ← named-to, ← d) at look

pub ruleset seeks = (seek-turned, seek-start, seek-end, seek_found, compare-start, compare-all, rules)
