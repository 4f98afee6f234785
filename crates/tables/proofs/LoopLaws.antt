-- The rule over all records of a section, over the cells that are not used, and the sum of elements, by the turns that the code takes.
use Prim.Native.Nat.{ℕ, zero, suc, ◌+◌, ◌-◌, ◌*◌, ◌^◌, ◌≤◌, ◌<◌, min}
use mathlib.Core.Path.{◌≡◌, refl, sym, ◌∙◌}
use mathlib.Core.List.{List}
use mathlib.Core.Bool.{Bool, true, false, ◌&&◌, and-true}
use native.Mathlib.Omega.{arith}
use native.Mathlib.Nat.{mul-le-mul_left}
use borrow.Author.Rules.{rules}
use native.Mathlib.Numerals.{add-one}
use borrow.Author.Tests.{ltb-true, ltb-false, eqb-true, eqb-false, eq-eqb}
use lib.Bits.{bit_or, or_add_and, and_le_l, and_le_r}
use lib.Dec.{eqb, leb, ltb}
use lib.ListN.{length, get_or, get_or-eq_default}
use Rattle.number.specs.Most.{most_objects}
use Rattle.records.specs.Cells.{section_in, count_in}
use Rattle.records.specs.declared.Section.{Section}
use Rattle.records.proofs.OpLaws.{product}
use Rattle.tables.specs.Form.{table_sections, past_points, object_section, Tables, tables_in}
use Rattle.number.specs.Below.{sum_below, all_below}
use Rattle.tables.specs.Group.{elements}
use Rattle.tables.specs.Rule.{count_fits, unused_zero, form_rule, ruled, keeps_rule}
use Rattle.tables.proofs.All.{all_none, all_more, all-fails, sum-none, sum_more, sum-most}
use Rattle.tables.proofs.GroupLaws.{elements-most}

-- r is what the code says of record i; c the number of records
module _ (f : ℕ → Bool) where
  pub all-on : (i : ℕ) (r : Bool) → all_below i f ≡ true → r ≡ f i → r ≡ true → all_below (i + 1) f ≡ true
  all-on i r p q h = all_more f i p (sym q ∙ h)

  pub all-stop : (n i c : ℕ) (r : Bool) → c ≡ n → i < c → r ≡ f i → r ≡ false → false ≡ all_below n f
  all-stop n i c r p l q h = sym (all-fails f n i (rw p at l) (sym q ∙ h))

-- "512 objects"
pub object-few : (t : List ℕ) (c i : ℕ) → c ≡ count_in t (section_in table_sections object_section) → i < c → i < most_objects
unfolding count_in table_sections
object-few t c i p h = omega arith

-- ---- cells that are zero

abbrev pub clear_at : List ℕ → ℕ → ℕ → Bool
clear_at t a k = eqb (get_or t (a + k) 0) 0

-- two numbers are zero together where they have no bit
pub none-of-both : (a b : ℕ) → eqb (bit_or a b) 0 ≡ (eqb a 0 && eqb b 0)
none-of-both a b = by_zero (eqb (bit_or a b) 0) refl where
  by_zero : (z : Bool) → eqb (bit_or a b) 0 ≡ z → z ≡ (eqb a 0 && eqb b 0)
  by_zero true h =
      let o : bit_or a b ≡ 0 = eqb-true (bit_or a b) 0 h in
      let p : a ≡ 0 = omega (arith, or_add_and a b, and_le_r a b) in
      let q : b ≡ 0 = omega (arith, or_add_and a b, and_le_l a b) in
      rw (p, q)
  by_zero false h = sym (by_first (eqb a 0) (eqb b 0) refl refl) where
    by_first : (c d : Bool) → eqb a 0 ≡ c → eqb b 0 ≡ d → (c && d) ≡ false
    by_first false d p q = refl
    by_first true false p q = refl
    by_first true true p q =
        let n : bit_or a b ≡ 0 → ⊥ = eqb-false (bit_or a b) 0 h in
        absurd (n (omega (arith, or_add_and a b, eqb-true a 0 p, eqb-true b 0 q)))

module _ (t : List ℕ) (a : ℕ) where
  pub clear_none : eqb 0 0 ≡ all_below 0 (clear_at t a)
  clear_none = sym (all_none (clear_at t a))

  pub clear-on : (k v : ℕ) → eqb v 0 ≡ all_below k (clear_at t a) → eqb (bit_or v (get_or t (a + k) 0)) 0 ≡ all_below (k + 1) (clear_at t a)
  unfolding all_below
  clear-on k v p = none-of-both v (get_or t (a + k) 0) ∙ rw (add-one k, p)

  -- past the end there is no cell
  clear-past : (k n : ℕ) → length t ≤ a + k → k ≤ n → all_below k (clear_at t a) ≡ all_below n (clear_at t a)
  unfolding all_below
  clear-past k zero l h = let e : k ≡ 0 = omega arith in rw e
  clear-past k (suc n) l h = by_place_lem (eqb k (suc n)) refl (clear-past k n l) where
    by_place_lem : (b : Bool) → eqb k (suc n) ≡ b → (k ≤ n → all_below k (clear_at t a) ≡ all_below n (clear_at t a)) → all_below k (clear_at t a) ≡ (all_below n (clear_at t a) && clear_at t a n)
    by_place_lem true b ih = rw (eqb-true k (suc n) b)
    by_place_lem false b ih =
        let d : k ≡ suc n → ⊥ = eqb-false k (suc n) b in
        let e : k ≤ n = omega (arith, d) in
        rw (ih e, eq-eqb (get_or t (a + n) 0) 0 (get_or-eq_default t 0 (omega arith)), and-true)

  -- e cells are there, of m
  pub clear-done : (m e k v : ℕ) → e ≡ min (length t - a) m → e ≤ k → k ≤ e → eqb v 0 ≡ all_below k (clear_at t a) → eqb v 0 ≡ all_below m (clear_at t a)
  clear-done m e k v p h l q = by-room (ltb k m) refl where
    by-room : (b : Bool) → ltb k m ≡ b → eqb v 0 ≡ all_below m (clear_at t a)
    by-room true b = let r : k < m = ltb-true k m b in q ∙ clear-past k m (omega arith) (omega arith)
    by-room false b =
        let r : m ≤ k = ltb-false k m b in
        let s : k ≡ m = omega arith in
        rw s at q

pub ruleset clears = (clear_none, clear-on, clear-done, rules)

-- ---- sections

-- c is what `section_of` gave
module _ (t : List ℕ) (j : ℕ) (c : Section) (p : c ≡ section_in table_sections j) where
  pub fits-is : (v : ℕ) → v ≡ get_or t c.base 0 → leb v c.most ≡ count_fits t j
  unfolding count_fits
  fits-is v q = rw (q, p)

  -- u cells are used by n records, and a by the most there may be
  module _ (n u a : ℕ) (q : n ≡ count_in t (section_in table_sections j)) (pu : u ≡ c.width * n) (pa : a ≡ c.width * c.most) where
    pub unused-is : (r : Bool) → r ≡ all_below (a - u) (clear_at t (c.base + (1 + u))) → r ≡ unused_zero t j
    unfolding unused_zero
    unused-is r e = rw (e, pu, pa, p, q)

    pub used-most : u ≤ a
    unfolding count_in
    used-most = rw (pu, pa) (mul-le-mul_left c.width (rw (q, p) (omega arith)))

    pub used-small : c.width < 2 ^ 8 → c.most < 2 ^ 16 → a ≤ 2 ^ 24
    used-small h l = rw pa (product c.width c.most h l)

pub ruleset unuseds = (fits-is, rules)

abbrev pub formed_at : List ℕ → ℕ → Bool
formed_at t j = count_fits t j && unused_zero t j

module _ (t : List ℕ) where
  pub form-none : all_below 0 (formed_at t) ≡ true
  form-none = all_none (formed_at t)

  pub form-on : (j : ℕ) (a b : Bool) → all_below j (formed_at t) ≡ true → a ≡ count_fits t j → b ≡ unused_zero t j → (a && b) ≡ true → all_below (j + 1) (formed_at t) ≡ true
  form-on j a b p q r h = all_more (formed_at t) j p (rw (← q, ← r) h)

  pub form-stop : (j : ℕ) (a b : Bool) → j < 6 → a ≡ count_fits t j → b ≡ unused_zero t j → (a && b) ≡ false → false ≡ form_rule t
  unfolding form_rule table_sections
  form-stop j a b l q r h = sym (all-fails (formed_at t) 6 j l (rw (← q, ← r) h))

  pub form-done : (j : ℕ) → 6 ≤ j → j ≤ 6 → all_below j (formed_at t) ≡ true → true ≡ form_rule t
  unfolding form_rule table_sections
  form-done j h l p = let e : 6 ≡ j = omega arith in rw e (sym p)

  pub keeps-formed : (n m : ℕ) (a r : Bool) → a ≡ form_rule t → a ≡ true → r ≡ ruled (tables_in t) n m → r ≡ keeps_rule n m t
  unfolding keeps_rule
  keeps-formed n m a r p h q = rw (← p, h, q)

  pub keeps-none : (n m : ℕ) (a : Bool) → a ≡ form_rule t → a ≡ false → false ≡ keeps_rule n m t
  unfolding keeps_rule
  keeps-none n m a p h = rw (← p, h)

pub ruleset forms = (form-none, form-on, form-stop, form-done, keeps-formed, keeps-none, rules)

-- ---- the sum

module _ (T : Tables) where
  pub sum-on : (g s e : ℕ) → s ≡ sum_below g (elements T) → e ≡ elements T g → s + e ≡ sum_below (g + 1) (elements T)
  sum-on g s e p q = rw (sum_more (elements T) g, p, q)

  pub sum_done : (n g c s : ℕ) → c ≡ n → c ≤ g → g ≤ c → s ≡ sum_below g (elements T) → s ≡ sum_below n (elements T)
  sum_done n g c s p h l q = let e : n ≡ g = omega arith in rw e q

  pub sum-small : (g s e : ℕ) → s ≡ sum_below g (elements T) → e ≡ elements T g → g < 65536 → s + e ≤ 2 ^ 50
  sum-small g s e p q h =
      let a : s ≤ past_points * past_points * g = rw p (sum-most (elements T) (past_points * past_points) (elements-most T) g) in
      let b : e ≤ past_points * past_points = rw q (elements-most T g) in
      omega arith

pub ruleset sums = (sum-none, sum-on, sum_done, rules)
