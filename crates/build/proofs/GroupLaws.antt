-- The groups' rows, by the branches that the code takes.
use Prim.Native.Nat.{ℕ, zero, suc, ◌+◌, ◌-◌, ◌≤◌, ◌<◌}
use mathlib.Core.Path.{◌≡◌, refl, sym, ◌∙◌, ap}
use mathlib.Core.List.{List, [], ◌∷◌, ◌++◌}
use mathlib.Core.Bool.{Bool, true, false, cond, ◌&&◌}
use native.Mathlib.Omega.{arith}
use native.Mathlib.Numerals.{add-one}
use borrow.Author.Rules.{rules}
use borrow.Author.Tests.{eq-eqb, ne_eqb}
use lib.Dec.{eqb}
use lib.ListN.{length}
use Rattle.rows.specs.Sections.{object, layout}
use Rattle.rows.specs.Slots.{block_code, fnc_values_mode, bit_mask_seen, bit_mask}
use Rattle.grammar.specs.Move.{View}
use Rattle.place.specs.Walk.{placement}
use Rattle.place.specs.declared.rules.Need.{Need}
use Rattle.place.specs.declared.walk.Places.{Places}
use Rattle.tables.specs.Form.{group_section}
use Rattle.objects.specs.Object.{first_of, basis_of, axis_at, need_of, places_in, places_of}
use Rattle.objects.specs.declared.basis.Basis.{Basis}
use Rattle.objects.proofs.ObjectLaws.{places-are}
use Rattle.build.specs.Build.{flag, what_of, of_object, of_axis, x_source, axis_walk, values_walk, mask_of, meaning, standing_cells, counter_cells, no_part_cells, x_part, y_part, values_part, known_of, x_row, y_row, values_row, groups_below}
use Rattle.build.specs.Row.{row_in, rows_in, axis_spot}
use Rattle.build.specs.declared.part.Known.{Known}
use Rattle.build.specs.declared.part.Source.{Source}
use Rattle.build.specs.declared.part.Spot.{Spot}
use Rattle.build.proofs.RowLaws.{length-rows, rows_on}

-- o is what `basis_of` gave
pub known_is : (image : List ℕ) (base : ℕ) (x : List ℕ) (v : View) (i : ℕ) (n : Need) (o : Basis) (p : Places) (f : Bool) → n ≡ need_of image base x v i → o ≡ basis_of x v base i → p ≡ places_in (placement o.footing n image o.layout) → f ≡ first_of v i
    → ◌≡◌ {A = Known} (record { need = n; layout = o.layout; places = p; first = f; number = o.number }) (known_of image base x v i)
unfolding known_of
known_is image base x v i n o p f a b c d = let e : p ≡ places_of image base x v i = c ∙ places-are image base x v i o n b a in rw (a, b, e, d)

pub ruleset knowns = (known_is, rules)

module _ (v : View) (i : ℕ) where
  pub source-object : (k : ℕ) (s : Source) → k ≡ v.slots object i block_code → k ≡ 7 → s ≡ of_object i → s ≡ x_source v i
  source-object k s p h q = q ∙ rw (← p, eq-eqb k 7 h)

  pub source-axis : (k a : ℕ) (s : Source) → k ≡ v.slots object i block_code → (k ≡ 7 → ⊥) → a ≡ axis_at v i 0 → s ≡ of_axis a → s ≡ x_source v i
  source-axis k a s p h q r = r ∙ rw (← p, ne_eqb k 7 h, q)

  pub walk-column : (l w m : ℕ) → w ≡ what_of v i → m ≡ v.slots layout l fnc_values_mode → (eqb w 18 && eqb m 11) ≡ true → 2 ≡ values_walk v i l
  unfolding values_walk
  walk-column l w m p q h = rw (← p, ← q, h)

  pub walk-row : (l w m : ℕ) → w ≡ what_of v i → m ≡ v.slots layout l fnc_values_mode → (eqb w 18 && eqb m 11) ≡ false → 0 ≡ values_walk v i l
  unfolding values_walk
  walk-row l w m p q h = rw (← p, ← q, h)

  pub mask-none : (h : ℕ) → h ≡ v.slots object i bit_mask_seen → h ≡ 0 → 0 ≡ mask_of v i
  unfolding mask_of
  mask-none h p e = rw (← p, eq-eqb h 0 e)

  pub mask-some : (h m : ℕ) → h ≡ v.slots object i bit_mask_seen → (h ≡ 0 → ⊥) → m ≡ v.slots object i bit_mask → m ≡ mask_of v i
  unfolding mask_of
  mask-some h m p e q = q ∙ rw (← p, ne_eqb h 0 e)

pub ruleset sources = (source-object, source-axis, rules)

pub ruleset walks = (walk-column, walk-row, rules)

pub ruleset masks = (mask-none, mask-some, rules)

abbrev spot : ℕ → Bool → ℕ → ℕ → ℕ → ℕ → Spot
spot kind first place cx cy walk = record { kind = kind; first = first; place = place; cx = cx; cy = cy; walk = walk }

pub axis-spot-is : (v : View) (kind : ℕ) (first : Bool) (place base cx l k m w p : ℕ) → m ≡ v.slots layout l k → w ≡ flag (eqb m 13) → p ≡ place - base → spot kind first p cx 1 w ≡ axis_spot v kind first place base cx l k
unfolding axis_spot
axis-spot-is v kind first place base cx l k m w p a b c = rw (c, b, a)

pub ruleset axis-spots = (axis-spot-is, rules)

module _ (base : ℕ) (x : List ℕ) (v : View) (i : ℕ) (o : Known) (u w : List ℕ) where
  pub x-stored : (s : Spot) (c : Source) (p : ℕ) → o.need.x.stored ≡ true → s ≡ axis_spot v o.layout.x.kind o.first o.places.x base o.places.cx o.number 18
      → c ≡ x_source v i → p ≡ o.places.nx - base → w ≡ row_in u group_section (standing_cells s.kind s.first s.place s.cx s.cy s.walk ++ (meaning x v c 0 false ++ counter_cells o.layout.nx p)) → w ≡ row_in u group_section (x_part base x v i o)
  unfolding x_part axis_spot
  x-stored s c p h a b d z = z ∙ rw (h, a, b, d)

  pub x-none : o.need.x.stored ≡ false → w ≡ row_in u group_section no_part_cells → w ≡ row_in u group_section (x_part base x v i o)
  unfolding x_part
  x-none h z = z ∙ rw h

  pub y-stored : (s : Spot) (c : Source) (n p : ℕ) → o.need.y.stored ≡ true → s ≡ axis_spot v o.layout.y.kind o.first o.places.y base o.places.cy o.number 23
      → n ≡ axis_at v i 1 → c ≡ of_axis n → p ≡ o.places.ny - base → w ≡ row_in u group_section (standing_cells s.kind s.first s.place s.cx s.cy s.walk ++ (meaning x v c 0 false ++ counter_cells o.layout.ny p)) → w ≡ row_in u group_section (y_part base x v i o)
  unfolding y_part axis_spot
  y-stored s c n p h a e b d z = z ∙ rw (h, a, b, e, d)

  pub y-none : o.need.y.stored ≡ false → w ≡ row_in u group_section no_part_cells → w ≡ row_in u group_section (y_part base x v i o)
  unfolding y_part
  y-none h z = z ∙ rw h

  pub values-stored : (s : Spot) (c : Source) (m k : ℕ) → o.need.values ≡ true → s ≡ spot o.layout.values.kind o.first (o.places.values - base) o.places.cx o.places.cy (values_walk v i o.number)
      → m ≡ mask_of v i → k ≡ what_of v i → c ≡ of_object i → w ≡ row_in u group_section (standing_cells s.kind s.first s.place s.cx s.cy s.walk ++ (meaning x v c m (eqb k 10) ++ (0 ∷ 0 ∷ []))) → w ≡ row_in u group_section (values_part base x v i o)
  unfolding values_part
  values-stored s c m k h a d e b z = z ∙ rw (h, a, b, d, e)

  pub values-none : o.need.values ≡ false → w ≡ row_in u group_section no_part_cells → w ≡ row_in u group_section (values_part base x v i o)
  unfolding values_part
  values-none h z = z ∙ rw h

pub ruleset x-parts = (x-stored, x-none, rules)

pub ruleset y-parts = (y-stored, y-none, rules)

pub ruleset values-parts = (values-stored, values-none, rules)

pub parts_are : (a b c u u₁ u₂ u₃ : List ℕ) → u₁ ≡ row_in u group_section a → u₂ ≡ row_in u₁ group_section b → u₃ ≡ row_in u₂ group_section c → u₃ ≡ rows_in u group_section (a ∷ b ∷ c ∷ [])
unfolding rows_in
parts_are a b c u u₁ u₂ u₃ p q r = r ∙ rw (q, p)

pub ruleset parts = (parts_are, rules)

-- u holds the groups of the objects below i, of n
module _ (image : List ℕ) (base : ℕ) (x : List ℕ) (v : View) (t : List ℕ) where
  pub record Grouping (i : ℕ) (u : List ℕ) : Type 0 where
    pub within : i ≤ v.counts object
    pub long : length u ≡ length t
    pub is : u ≡ rows_in t group_section (groups_below image base x v i)

  pub grouping-start : Grouping 0 t
  unfolding rows_in groups_below
  grouping-start = record { within = omega arith; long = refl; is = refl }

  pub grouping-on : (c i : ℕ) (o : Known) (u w : List ℕ) → Grouping i u → c ≡ v.counts object → i < c → o ≡ known_of image base x v i
      → w ≡ rows_in u group_section (x_part base x v i o ∷ y_part base x v i o ∷ values_part base x v i o ∷ []) → Grouping (i + 1) w
  unfolding groups_below
  grouping-on c i o u w z e h k q =
      record {
        within = omega arith;
        long = ap length q ∙ length-rows u group_section _ ∙ z.long;
        is = q ∙ rw (k, z.is, add-one i) (sym (rows_on t group_section (groups_below image base x v i) (x_row image base x v i ∷ y_row image base x v i ∷ values_row image base x v i ∷ [])));
      }

  pub grouping-end : (c i : ℕ) (u : List ℕ) → Grouping i u → c ≡ v.counts object → c ≤ i → u ≡ rows_in t group_section (groups_below image base x v (v.counts object))
  grouping-end c i u z e h = let d : i ≡ v.counts object = omega (arith, z.within) in rw d at z.is

pub ruleset groupings = (grouping-start, grouping-on, grouping-end, rules)
