-- The objects' rows, by the branches that the code takes.
use Prim.Native.Nat.{ℕ}
use mathlib.Core.Path.{◌≡◌, refl, sym, ◌∙◌, ap}
use mathlib.Core.List.{List, [], ◌∷◌}
use mathlib.Core.Bool.{cond}
use borrow.Author.Rules.{rules}
use borrow.Author.Tests.{eq-eqb, ne_eqb}
use Rattle.rows.specs.Sections.{object}
use Rattle.rows.specs.Slots.{own_name, own_name_past, block_code, object_type}
use Rattle.grammar.specs.Move.{View}
use Rattle.tables.specs.Form as form
use Rattle.build.specs.Build.{type_of, what_of, object_row}
use Rattle.build.specs.Row.{row_in}

module _ (k : ℕ) where
  pub type-block : k ≡ 16 → 16 ≡ type_of k
  unfolding type_of
  type-block h = rw (eq-eqb k 16 h)

  pub type-curve : (k ≡ 16 → ⊥) → k ≡ 17 → 17 ≡ type_of k
  unfolding type_of
  type-curve a h = rw (ne_eqb k 16 a, eq-eqb k 17 h)

  pub type-map : (k ≡ 16 → ⊥) → (k ≡ 17 → ⊥) → k ≡ 18 → 18 ≡ type_of k
  unfolding type_of
  type-map a b h = rw (ne_eqb k 16 a, ne_eqb k 17 b, eq-eqb k 18 h)

  pub type-value : (k ≡ 16 → ⊥) → (k ≡ 17 → ⊥) → (k ≡ 18 → ⊥) → 15 ≡ type_of k
  unfolding type_of
  type-value a b c = rw (ne_eqb k 16 a, ne_eqb k 17 b, ne_eqb k 18 c)

pub ruleset types = (type-block, type-curve, type-map, type-value, rules)

-- k is the object's class
module _ (v : View) (i k : ℕ) (p : k ≡ v.slots object i block_code) where
  pub what-axis : k ≡ 7 → 7 ≡ what_of v i
  unfolding what_of
  what-axis h = rw (← p, eq-eqb k 7 h)

  pub what-type : (y r : ℕ) → (k ≡ 7 → ⊥) → k ≡ 8 → y ≡ v.slots object i object_type → r ≡ type_of y → r ≡ what_of v i
  unfolding what_of
  what-type y r a h q z = z ∙ rw (← p, ne_eqb k 7 a, eq-eqb k 8 h, q)

  pub what-measured : (k ≡ 7 → ⊥) → (k ≡ 8 → ⊥) → 10 ≡ what_of v i
  unfolding what_of
  what-measured a b = rw (← p, ne_eqb k 7 a, ne_eqb k 8 b)

pub ruleset whats = (what-axis, what-type, what-measured, rules)

pub object-is : (v : View) (i a b c : ℕ) (u w : List ℕ) → a ≡ v.slots object i own_name → b ≡ v.slots object i own_name_past → c ≡ what_of v i → w ≡ row_in u form.object_section (a ∷ b ∷ c ∷ []) → w ≡ row_in u form.object_section (object_row v i)
object-is v i a b c u w p q r z = z ∙ rw (p, q, r)

pub ruleset objects = (object-is, rules)
