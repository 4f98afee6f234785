-- The numbers of a record stand one after another in the cells: whether they are zero is told by the cells.
use Prim.Native.Nat.{ℕ, zero, suc, ◌+◌, ◌-◌, ◌*◌, ◌≤◌, ◌<◌, min}
use mathlib.Core.Path.{◌≡◌, refl, sym, ◌∙◌, ap}
use mathlib.Core.List.{List}
use mathlib.Core.Bool.{Bool, true, false, ◌&&◌, and-true, and-false}
use native.Mathlib.Omega.{arith}
use borrow.Author.Rules.{rules}
use borrow.Author.Tests.{lt-ltb, le-ltb, eqb-true, eqb-false}
use lib.Dec.{eqb, ltb}
use lib.ListN.{get_or}
use Rattle.number.specs.Below.{all_below}
use Rattle.records.specs.Cells.{section_in, slot_in}
use Rattle.records.specs.declared.Section.{Section}
use Rattle.tables.specs.Form.{table_sections, tables_in}
use Rattle.tables.proofs.All.{all_of}
use Rattle.tables.proofs.LoopLaws.{clear_at}

-- two tests that agree below n
same-below : (n : ℕ) (f g : ℕ → Bool) → ((k : ℕ) → k < n → f k ≡ g k) → all_below n f ≡ all_below n g
unfolding all_below
same-below zero f g h = refl
same-below (suc n) f g h = rw (same-below n f g (λ k l. h k (omega arith)), h n (omega arith)) refl

-- a test that holds from m on
rest-holds : (n m : ℕ) (g : ℕ → Bool) → m ≤ n → ((k : ℕ) → m ≤ k → k < n → g k ≡ true) → all_below m g ≡ all_below n g
unfolding all_below
rest-holds zero m g l h = let e : m ≡ 0 = omega arith in rw e refl
rest-holds (suc n) m g l h = by-end (eqb m (suc n)) refl (λ e. rest-holds n m g e (λ k p q. h k p (omega arith)))
  where
    by-end : (b : Bool) → eqb m (suc n) ≡ b → (m ≤ n → all_below m g ≡ all_below n g) → all_below m g ≡ (all_below n g && g n)
    by-end true b ih = rw (eqb-true m (suc n) b) refl
    by-end false b ih =
        let d : m ≡ suc n → ⊥ = eqb-false m (suc n) b in
        let e : m ≤ n = omega (arith, d, l) in
        rw (ih e, h n e (omega arith), and-true) refl

module _ (t : List ℕ) (c : Section) (i from : ℕ) where
  -- number k + from of record i is zero
  abbrev zero_at : ℕ → Bool
  zero_at k = eqb (slot_in t c i (k + from)) 0

  past-records : (k : ℕ) → c.most ≤ i → zero_at k ≡ true
  unfolding slot_in
  past-records k h = rw (le-ltb i c.most h) refl

  no-record : (n : ℕ) → c.most ≤ i → all_below n zero_at ≡ true
  no-record n h = all_of n zero_at (λ k l. past-records k h)

  past-numbers : (k : ℕ) → c.width ≤ k + from → zero_at k ≡ true
  unfolding slot_in
  past-numbers k h = rw (le-ltb (k + from) c.width h, and-false) refl

  module _ (h : i < c.most) (a : ℕ) (p : a ≡ c.base + (1 + c.width * i) + from) where
    in-record : (k : ℕ) → k + from < c.width → clear_at t a k ≡ zero_at k
    unfolding slot_in
    in-record k l =
        let e : a + k ≡ c.base + (1 + c.width * i + (k + from)) = omega (arith, p) in
        rw (lt-ltb i c.most h, lt-ltb (k + from) c.width l, e) refl

    numbers : (n m : ℕ) → m ≡ min (c.width - from) n → all_below m (clear_at t a) ≡ all_below n zero_at
    numbers n m e =
        same-below m (clear_at t a) zero_at (λ k l. in-record k (omega (arith, e, l)))
        ∙ rest-holds n m zero_at (omega (arith, e)) (λ k l r. past-numbers k (omega (arith, e, l, r)))

-- c is section j
module _ (t : List ℕ) (j i from many : ℕ) (c : Section) (q : c ≡ section_in table_sections j) where
  pub zeros-none : c.most ≤ i → true ≡ all_below many (λ (k : ℕ). eqb ((tables_in t).slots j i (k + from)) 0)
  zeros-none h = rw (← q) (sym (no-record t c i from many h))

  pub zeros-are : (r : Bool) (a m : ℕ) → i < c.most → a ≡ c.base + (1 + c.width * i) + from → m ≡ min (c.width - from) many → r ≡ all_below m (clear_at t a)
      → r ≡ all_below many (λ (k : ℕ). eqb ((tables_in t).slots j i (k + from)) 0)
  zeros-are r a m h p e s = rw (← q) (s ∙ numbers t c i from h a p many m e)

pub ruleset zero-laws = (zeros-none, zeros-are, rules)
