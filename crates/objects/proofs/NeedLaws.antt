-- What an object needs, by the branches that the code takes.
use Prim.Native.Nat.{ℕ, min}
use mathlib.Core.Path.{◌≡◌, sym, ◌∙◌, ap}
use mathlib.Core.List.{List}
use mathlib.Core.Bool.{true, false}
use borrow.Author.Tests.{eq-eqb, ne_eqb}
use Rattle.std.specs.Prelude.{Result, Ok, Err}
use Rattle.rows.specs.Sections.{object, axis}
use Rattle.rows.specs.Slots.{block_code, object_type, object_max_points, number_of_values, axis_attribute, axis_max_points, axis_pts_ref, axis_pts_ref_past}
use Rattle.grammar.specs.Move.{View}
use Rattle.place.specs.Told.{told_placed}
use Rattle.place.specs.Walk.{placement}
use Rattle.place.specs.declared.refusal.PlaceRefusal.{PlaceRefusal}
use Rattle.place.specs.declared.rules.Axis.{Axis}
use Rattle.place.specs.declared.rules.Need.{Need}
use Rattle.place.specs.declared.walk.Reached.{Reached}
use Rattle.objects.specs.Object.{led, basis_of, no_axis, own_axis, value_need, axis_pts_need, block_need, axis_at, shared_by, points_in, shared_points, axis_need, curve_need, map_need, characteristic_need, need_of}
use Rattle.objects.specs.declared.basis.Basis.{Basis}

pub value-is : (x y : Axis) → x ≡ no_axis → y ≡ no_axis → ◌≡◌ {A = Need} (record { values = true; x = x; y = y }) value_need
value-is x y px py = rw (px, py)

-- m is a number of the object's record, and n the least of it and the greatest one
module _ (v : View) (i m n : ℕ) where
  pub axis-pts-is : (x y : Axis) → m ≡ v.slots object i object_max_points → n ≡ min m 256 → x ≡ own_axis n → y ≡ no_axis → ◌≡◌ {A = Need} (record { values = false; x = x; y = y }) (axis_pts_need v i)
  unfolding axis_pts_need
  axis-pts-is x y pm pn px py = rw (px, py, pn, pm)

  pub block-is : (y : Axis) → m ≡ v.slots object i number_of_values → n ≡ min m 65535 → y ≡ no_axis
      → ◌≡◌ {A = Need} (record { values = true; x = record { stored = false; most = n; points = n }; y = y }) (block_need v i)
  unfolding block_need
  block-is y pm pn py = rw (py, pn, pm)

pub shared-is : (x : List ℕ) (v : View) (a from to r : ℕ) → from ≡ v.slots axis a axis_pts_ref → to ≡ v.slots axis a axis_pts_ref_past → r ≡ led x v object from to → r ≡ shared_by x v a
shared-is x v a from to r pf pt pr = pr ∙ rw (pf, pt)

pub ruleset numbers = (value-is, axis-pts-is, block-is, shared-is)

module _ (image : List ℕ) (base : ℕ) (x : List ℕ) (v : View) where
  -- o is what `basis_of` gave, q what `place_parts` gave
  module _ (s : ℕ) (o : Basis) (n : Need) (q : Result Reached PlaceRefusal) (po : o ≡ basis_of x v base s) (pn : n ≡ axis_pts_need v s) (pq : told_placed q ≡ placement o.footing n image o.layout) where
    points-are : points_in (told_placed q) ≡ shared_points image base x v s
    unfolding shared_points
    points-are = rw (pq, po, pn)

    pub points-at : (r : Reached) → q ≡ Ok r → r.places.cx ≡ shared_points image base x v s
    points-at r y = sym (ap (λ (z : Result Reached PlaceRefusal). points_in (told_placed z)) y) ∙ points-are

    pub points_none : (k : PlaceRefusal) → q ≡ Err k → 0 ≡ shared_points image base x v s
    points_none k y = sym (ap (λ (z : Result Reached PlaceRefusal). points_in (told_placed z)) y) ∙ points-are

  -- m is the AXIS_DESCR's maximum, c the code of its kind
  module _ (a m n c : ℕ) (pm : m ≡ v.slots axis a axis_max_points) (pn : n ≡ min m 256) (pc : c ≡ v.slots axis a axis_attribute) where
    pub axis-shared : c ≡ 24 → (s k : ℕ) → s ≡ shared_by x v a → k ≡ shared_points image base x v s → ◌≡◌ {A = Axis} (record { stored = false; most = n; points = k }) (axis_need image base x v a)
    unfolding axis_need
    axis-shared h s k ps pk = rw (← pc, eq-eqb c 24 h, pk, ps, pn, pm)

    pub axis-own : (c ≡ 24 → ⊥) → (r : Axis) → r ≡ own_axis n → r ≡ axis_need image base x v a
    unfolding axis_need
    axis-own h r pr = rw (← pc, ne_eqb c 24 h, pr, pn, pm)

  -- a and b are the places of the axes
  module _ (i a : ℕ) (ax ay : Axis) (pa : a ≡ axis_at v i 0) (px : ax ≡ axis_need image base x v a) where
    pub curve-is : ay ≡ no_axis → ◌≡◌ {A = Need} (record { values = true; x = ax; y = ay }) (curve_need image base x v i)
    unfolding curve_need
    curve-is py = rw (px, py, pa)

    pub map_is : (b : ℕ) → b ≡ axis_at v i 1 → ay ≡ axis_need image base x v b → ◌≡◌ {A = Need} (record { values = true; x = ax; y = ay }) (map_need image base x v i)
    unfolding map_need
    map_is b pb py = rw (px, py, pa, pb)

  -- k is the code of the CHARACTERISTIC's type
  module _ (i k : ℕ) (r : Need) (p : k ≡ v.slots object i object_type) where
    pub of-block : k ≡ 16 → r ≡ block_need v i → r ≡ characteristic_need image base x v i
    unfolding characteristic_need
    of-block h q = rw (← p, eq-eqb k 16 h, q)

    module _ (h : k ≡ 16 → ⊥) where
      pub of-curve : k ≡ 17 → r ≡ curve_need image base x v i → r ≡ characteristic_need image base x v i
      unfolding characteristic_need
      of-curve g q = rw (← p, ne_eqb k 16 h, eq-eqb k 17 g, q)

      pub of_map : (k ≡ 17 → ⊥) → k ≡ 18 → r ≡ map_need image base x v i → r ≡ characteristic_need image base x v i
      unfolding characteristic_need
      of_map g f q = rw (← p, ne_eqb k 16 h, ne_eqb k 17 g, eq-eqb k 18 f, q)

      pub of-value : (k ≡ 17 → ⊥) → (k ≡ 18 → ⊥) → r ≡ value_need → r ≡ characteristic_need image base x v i
      unfolding characteristic_need
      of-value g f q = rw (← p, ne_eqb k 16 h, ne_eqb k 17 g, ne_eqb k 18 f, q)

  -- c is the code of the object's word
  module _ (i c : ℕ) (r : Need) (p : c ≡ v.slots object i block_code) where
    pub of-axis-pts : c ≡ 7 → r ≡ axis_pts_need v i → r ≡ need_of image base x v i
    unfolding need_of
    of-axis-pts h q = rw (← p, eq-eqb c 7 h, q)

    pub of-characteristic : (c ≡ 7 → ⊥) → c ≡ 8 → r ≡ characteristic_need image base x v i → r ≡ need_of image base x v i
    unfolding need_of
    of-characteristic h g q = rw (← p, ne_eqb c 7 h, eq-eqb c 8 g, q)

    pub of-measurement : (c ≡ 7 → ⊥) → (c ≡ 8 → ⊥) → r ≡ value_need → r ≡ need_of image base x v i
    unfolding need_of
    of-measurement h g q = rw (← p, ne_eqb c 7 h, ne_eqb c 8 g, q)

pub ruleset points = (points-at, points_none)

pub ruleset axes = (axis-shared, axis-own, curve-is, map_is)

pub ruleset kinds = (of-block, of-curve, of_map, of-value)

pub ruleset classes = (of-axis-pts, of-characteristic, of-measurement)
