-- One part of an object, by the branches that the code takes.
use Prim.Native.Nat.{ℕ, zero, suc, ◌+◌, ◌-◌, ◌≤◌, ◌<◌}
use mathlib.Core.Path.{◌≡◌, refl, sym, ◌∙◌, ap}
use mathlib.Core.List.{List, [], ◌∷◌, ◌++◌}
use mathlib.Core.Bool.{Bool, true, false, cond, not, ◌&&◌, ◌||◌}
use native.Mathlib.Omega.{arith}
use native.Mathlib.Numerals.{add-one}
use borrow.Author.Rules.{rules}
use borrow.Author.Tests.{eq-eqb, ne_eqb}
use lib.Dec.{eqb}
use lib.ListN.{length, replicate}
use Rattle.std.specs.Prelude.{Option}
use Rattle.text.specs.Bytes.{same_part, spelt}
use Rattle.number.specs.Decimal.{Scaled}
use Rattle.number.specs.Told.{scaled}
use Rattle.number.specs.declared.decimal.Decimal.{Decimal}
use Rattle.records.specs.Cells.{section_in, count_in, put_in, add_in}
use Rattle.rows.specs.Sections.{method}
use Rattle.grammar.specs.Move.{View, decimal_slots}
use Rattle.grammar.specs.Parameter.{find, found_at}
use Rattle.place.specs.declared.order.Entry.{Entry}
use Rattle.tables.specs.Form.{table_sections, group_section}
use Rattle.build.specs.Build.{flag, method_number, method_in, forbids, decimal_cells, limit_cells, meaning, standing_cells, counter_cells, no_part_cells}
use Rattle.build.specs.Row.{puts_at, opened, row_in}
use Rattle.build.specs.declared.part.Source.{Source}
use Rattle.build.specs.declared.part.Spot.{Spot}
use Rattle.build.proofs.RowLaws.{puts-on}

module _ (x : List ℕ) (v : View) (a e : ℕ) (b : Bool) (p : b ≡ same_part x a e (spelt "NO_COMPU_METHOD") 0 15) where
  pub method-none : b ≡ true → 0 ≡ method_number x v a e
  unfolding method_number
  method-none h = rw (← p, h)

  pub method-found : (f : Option ℕ) (n : ℕ) → b ≡ false → found_at f ≡ find x v method a e → n ≡ found_at f → n ≡ method_number x v a e
  unfolding method_number
  method-found f n h q r = rw (← p, h) (r ∙ q)

pub ruleset method-numbers = (method-none, method-found, rules)

module _ (x : List ℕ) (v : View) (s : Source) where
  pub method-is : (a e n : ℕ) → a ≡ v.slots s.sec s.number s.conversion → e ≡ v.slots s.sec s.number (s.conversion + 1) → n ≡ method_number x v a e → n ≡ method_in x v s
  unfolding method_in
  method-is a e n p q r = rw (← p, ← q) r

  pub forbids-is : (f : Bool) (n r : ℕ) → n ≡ v.slots s.sec s.number s.only → r ≡ flag (f || not (eqb n 0)) → r ≡ forbids v s f
  unfolding forbids
  forbids-is f n r p q = rw (← p) q

pub ruleset methods-in = (method-is, rules)

pub ruleset forbiddens = (forbids-is, rules)

module _ (u : List ℕ) (g : ℕ) where
  pub decimal-is : (k sign : ℕ) (d : Decimal) (w : List ℕ) → sign ≡ flag d.negative → w ≡ puts_at u group_section g k (sign ∷ d.whole ∷ d.tens ∷ []) → w ≡ puts_at u group_section g k (decimal_cells (scaled d))
  decimal-is k sign d w p q = q ∙ rw p

  pub limits-is : (v : View) (s : Source) (l h : Decimal) (u₁ u₂ : List ℕ) → scaled l ≡ decimal_slots v s.sec s.number s.lower → scaled h ≡ decimal_slots v s.sec s.number s.upper
      → u₁ ≡ puts_at u group_section g 11 (decimal_cells (scaled l)) → u₂ ≡ puts_at u₁ group_section g 14 (decimal_cells (scaled h)) → u₂ ≡ puts_at u group_section g 11 (limit_cells v s)
  unfolding limit_cells
  limits-is v s l h u₁ u₂ p q r z =
      z ∙ ap (λ (a : List ℕ). puts_at a group_section g 14 (decimal_cells (scaled h))) r
      ∙ sym (puts-on u group_section g 11 (decimal_cells (scaled l)) (decimal_cells (scaled h)))
      ∙ ap (λ (a : Scaled). puts_at u group_section g 11 (decimal_cells a ++ decimal_cells (scaled h))) p
      ∙ ap (λ (a : Scaled). puts_at u group_section g 11 (decimal_cells (decimal_slots v s.sec s.number s.lower) ++ decimal_cells a)) q

  pub meaning-is : (x : List ℕ) (v : View) (s : Source) (mask m o : ℕ) (f : Bool) (u₁ u₂ : List ℕ) → m ≡ method_in x v s → o ≡ forbids v s f
      → u₁ ≡ puts_at u group_section g 8 (m ∷ mask ∷ o ∷ []) → u₂ ≡ puts_at u₁ group_section g 11 (limit_cells v s) → u₂ ≡ puts_at u group_section g 8 (meaning x v s mask f)
  unfolding meaning
  meaning-is x v s mask m o f u₁ u₂ p q r z = z ∙ rw (r, ← p, ← q) (sym (puts-on u group_section g 8 (m ∷ mask ∷ o ∷ []) (limit_cells v s)))

  pub standing-is : (p : Spot) (first : ℕ) (u₁ u₂ : List ℕ) → first ≡ flag p.first → u₁ ≡ puts_at u group_section g 0 (p.kind ∷ first ∷ p.place ∷ p.cx ∷ [])
      → u₂ ≡ puts_at u₁ group_section g 4 (p.cy ∷ p.cx ∷ p.cy ∷ p.walk ∷ []) → u₂ ≡ puts_at u group_section g 0 (standing_cells p.kind p.first p.place p.cx p.cy p.walk)
  standing-is p first u₁ u₂ h q r = r ∙ rw (q, h) (sym (puts-on u group_section g 0 (p.kind ∷ flag p.first ∷ p.place ∷ p.cx ∷ []) (p.cy ∷ p.cx ∷ p.cy ∷ p.walk ∷ [])))

pub ruleset decimals = (decimal-is, rules)

pub ruleset limits = (limits-is, rules)

pub ruleset meanings = (meaning-is, rules)

pub ruleset standings = (standing-is, rules)

pub meaning-long : (x : List ℕ) (v : View) (s : Source) (mask : ℕ) (f : Bool) → length (meaning x v s mask f) ≡ 9
unfolding meaning limit_cells
meaning-long x v s mask f = refl

-- a group is opened
module _ (u u₁ : List ℕ) (g : ℕ) (pg : g ≡ count_in u (section_in table_sections group_section)) (po : u₁ ≡ opened u group_section) where
  pub none_is : (u₂ : List ℕ) → u₂ ≡ puts_at u₁ group_section g 0 (replicate 19 0) → u₂ ≡ row_in u group_section no_part_cells
  unfolding row_in
  none_is u₂ q = q ∙ rw (po, pg)

  -- three runs of numbers
  runs : (a b c : List ℕ) (u₂ u₃ u₄ : List ℕ) → length a ≡ 8 → length b ≡ 9 → u₂ ≡ puts_at u₁ group_section g 0 a → u₃ ≡ puts_at u₂ group_section g 8 b → u₄ ≡ puts_at u₃ group_section g 17 c → u₄ ≡ row_in u group_section (a ++ (b ++ c))
  unfolding row_in
  runs a b c u₂ u₃ u₄ la lb p q r =
      let ea : 0 + length a ≡ 8 = omega arith in
      let eb : 8 + length b ≡ 17 = omega arith in
      let s : puts_at (opened u group_section) group_section g 0 (a ++ (b ++ c)) ≡ puts_at (puts_at (opened u group_section) group_section g 0 a) group_section g 8 (b ++ c) =
      puts-on (opened u group_section) group_section g 0 a (b ++ c) ∙ ap (λ n. puts_at (puts_at (opened u group_section) group_section g 0 a) group_section g n (b ++ c)) ea in
      let t : puts_at (puts_at (opened u group_section) group_section g 0 a) group_section g 8 (b ++ c) ≡ puts_at (puts_at (puts_at (opened u group_section) group_section g 0 a) group_section g 8 b) group_section g 17 c =
      puts-on (puts_at (opened u group_section) group_section g 0 a) group_section g 8 b c ∙ ap (λ n. puts_at (puts_at (puts_at (opened u group_section) group_section g 0 a) group_section g 8 b) group_section g n c) eb in
      r ∙ rw (q, p, po) (sym (rw (← pg) (s ∙ t)))

  pub axis-is : (x : List ℕ) (v : View) (p : Spot) (s : Source) (e : Entry) (place : ℕ) (u₂ u₃ u₄ : List ℕ) → u₂ ≡ puts_at u₁ group_section g 0 (standing_cells p.kind p.first p.place p.cx p.cy p.walk)
      → u₃ ≡ puts_at u₂ group_section g 8 (meaning x v s 0 false) → u₄ ≡ puts_at u₃ group_section g 17 (counter_cells e place)
      → u₄ ≡ row_in u group_section (standing_cells p.kind p.first p.place p.cx p.cy p.walk ++ (meaning x v s 0 false ++ counter_cells e place))
  axis-is x v p s e place u₂ u₃ u₄ = runs (standing_cells p.kind p.first p.place p.cx p.cy p.walk) (meaning x v s 0 false) (counter_cells e place) u₂ u₃ u₄ refl (meaning-long x v s 0 false)

  pub values-is : (x : List ℕ) (v : View) (p : Spot) (s : Source) (mask : ℕ) (f : Bool) (u₂ u₃ u₄ : List ℕ) → u₂ ≡ puts_at u₁ group_section g 0 (standing_cells p.kind p.first p.place p.cx p.cy p.walk)
      → u₃ ≡ puts_at u₂ group_section g 8 (meaning x v s mask f) → u₄ ≡ puts_at u₃ group_section g 17 (replicate 2 0)
      → u₄ ≡ row_in u group_section (standing_cells p.kind p.first p.place p.cx p.cy p.walk ++ (meaning x v s mask f ++ (0 ∷ 0 ∷ [])))
  values-is x v p s mask f u₂ u₃ u₄ = runs (standing_cells p.kind p.first p.place p.cx p.cy p.walk) (meaning x v s mask f) (0 ∷ 0 ∷ []) u₂ u₃ u₄ refl (meaning-long x v s mask f)

pub ruleset axes = (axis-is, rules)

pub ruleset values = (values-is, rules)
