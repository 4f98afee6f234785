-- Each object of an accepted description has points: a number of points that was read is 1 or more, and so is a shared axis's.
use Prim.Native.Nat.{ℕ, zero, suc, ◌-◌, ◌≤◌, ◌<◌, min}
use mathlib.Core.Path.{◌≡◌, refl}
use mathlib.Core.List.{List}
use mathlib.Core.Bool.{Bool, true, false, ◌||◌, false≢true}
use mathlib.Core.Logic.{inl, inr}
use native.Mathlib.Omega.{arith}
use borrow.Author.Tests.{eqb-true, eq-eqb}
use lib.Dec.{eqb}
use Rattle.text.proofs.Within.{by-test}
use Rattle.number.specs.Answer.{Answer, given, refused}
use Rattle.number.specs.Most.{most_axes}
use Rattle.records.specs.Records.{count, slot}
use Rattle.records.proofs.Encode.{fit-few}
use Rattle.rows.specs.Codes.{AXIS-PTS, CHARACTERISTIC, VAL-BLK, CURVE, MAP, COM-AXIS}
use Rattle.rows.specs.Sections.{sections, object, axis}
use Rattle.rows.specs.Slots.{block_code, object_type, object_max_points, axis_attribute, axis_max_points, axis_pts_ref, axis_pts_ref_past}
use Rattle.grammar.specs.Move.{View, view}
use Rattle.grammar.specs.Parameter.{find}
use Rattle.grammar.specs.Keyword.{axes_of}
use Rattle.refer.specs.Refer.{row, inner_rows, reference_rows, is_free, is_of, leads}
use Rattle.place.specs.Walk.{points_of, placement}
use Rattle.place.specs.declared.rules.Axis.{Axis}
use Rattle.place.specs.declared.rules.Need.{Need}
use Rattle.place.specs.declared.walk.Reached.{Reached}
use Rattle.objects.specs.Object.{layout_of, ground_of, no_axis, own_axis, axis_pts_need, block_need, axis_at, shared_by, points_in, places_in, shared_points, axis_need, curve_need, map_need, characteristic_need, need_of, places_of}
use Rattle.objects.proofs.Each.{find-below}
use Rattle.facts.specs.Facts.{Kept}
use Rattle.tree.specs.Points.{Pointed}
use Rattle.keeps.specs.Accepted.{Accepted}
use Rattle.keeps.proofs.Stood.{Stood, one-point}

-- both axes have points
abbrev pub Counted : Need → Type 0
Counted n = (1 ≤ points_of n.x) × (1 ≤ points_of n.y)

-- each AXIS_PTS_REF that is there leads to an AXIS_PTS
abbrev pub Shares : List ℕ → List (List (List ℕ)) → Type 0
Shares x d = (a : ℕ) → a < count d axis → (slot d axis a axis_pts_ref_past ≡ 0 → ⊥) → leads x (view d) (row axis 14 object AXIS-PTS 0) (slot d axis a axis_pts_ref) (slot d axis a axis_pts_ref_past) ≡ true

pub shares : (image : List ℕ) (base : ℕ) (x : List ℕ) (d : List (List (List ℕ))) → Accepted image base x d → Shares x d
unfolding reference_rows inner_rows
shares image base x d h a l z = h.references (row axis 14 object AXIS-PTS 0) (inr (inr (inr (inr (inr (inl refl)))))) a l z

own-points : (m : ℕ) → 1 ≤ m → 1 ≤ points_of (own_axis (min m 256))
unfolding points_of
own-points m h = omega arith

none-points : 1 ≤ points_of no_axis
none-points = one-point no_axis refl

-- the record that was found is of the class
found_of : (v : View) (j c : ℕ) (n : ℕ) → (c ≡ 0 → ⊥) → is_of v j c n ≡ true → (0 < n) × (v.slots j (n - 1) 3 ≡ c)
found_of v j c zero o h = absurd (false≢true h)
found_of v j c (suc n) o h =
    let e : suc n - 1 ≡ n = omega arith in
    (omega arith, rw e (eqb-true (v.slots j n 3) c (by-class (eqb c 0) refl h))) where
      by-class : (t : Bool) → eqb c 0 ≡ t → (t || eqb (v.slots j n 3) c) ≡ true → eqb (v.slots j n 3) c ≡ true
      by-class true t q = absurd (o (eqb-true c 0 t))
      by-class false t q = q

same_points : (a : Answer Reached) → points_in a ≡ (places_in a).cx
same_points (given s) = refl
same_points (refused k) = refl

module _ (image : List ℕ) (base : ℕ) (x : List ℕ) (d : List (List (List ℕ))) (k : Kept x d) (p : Pointed d) (f : Shares x d) (stood : (i : ℕ) → i < count d object → Stood image base x (view d) i) where
  points-counted : (i : ℕ) → slot d object i block_code ≡ AXIS-PTS → Counted (axis_pts_need (view d) i)
  unfolding axis_pts_need
  points-counted i e = (own-points (slot d object i object_max_points) (p.points i e), none-points)

  -- "for COM_AXIS it is that of the AXIS_PTS named"
  points-need : (s : ℕ) → slot d object s block_code ≡ AXIS-PTS → need_of image base x (view d) s ≡ axis_pts_need (view d) s
  unfolding need_of
  points-need s e = rw (eq-eqb (slot d object s block_code) AXIS-PTS e)

  shared-is : (s : ℕ) → need_of image base x (view d) s ≡ axis_pts_need (view d) s → shared_points image base x (view d) s ≡ (places_of image base x (view d) s).cx
  unfolding shared_points places_of
  shared-is s e = rw e (same_points (placement (ground_of x (view d) base s) (axis_pts_need (view d) s) image (layout_of x (view d) s)))

  shared-some : (s : ℕ) → s < count d object → slot d object s block_code ≡ AXIS-PTS → 1 ≤ shared_points image base x (view d) s
  shared-some s l e = rw (shared-is s (points-need s e)) ((stood s l).some_x (rw (points-need s e) (points-counted s e).0))

  -- where AXIS_DESCR a leads
  module _ (a : ℕ) (l : a < count d axis) where
    abbrev found : ℕ
    found = find x (view d) object (slot d axis a axis_pts_ref) (slot d axis a axis_pts_ref_past)

    led-to : slot d axis a axis_attribute ≡ COM-AXIS → (0 < found) × (slot d object (found - 1) block_code ≡ AXIS-PTS)
    unfolding leads is_free
    led-to e = found_of (view d) object AXIS-PTS found (λ z. omega arith) (f a l (λ z. omega (arith, p.references a e)))

    shared-below : slot d axis a axis_attribute ≡ COM-AXIS → 1 ≤ shared_points image base x (view d) (shared_by x (view d) a)
    shared-below e = shared-some (found - 1) (omega (arith, (led-to e).0, find-below x (view d) object (slot d axis a axis_pts_ref) (slot d axis a axis_pts_ref_past))) (led-to e).1

    axis-some : 1 ≤ points_of (axis_need image base x (view d) a)
    unfolding axis_need points_of
    axis-some = by-test (λ (z : Axis). 1 ≤ points_of z) (eqb (slot d axis a axis_attribute) COM-AXIS) (λ t. shared-below (eqb-true (slot d axis a axis_attribute) COM-AXIS t)) (λ t. own-points (slot d axis a axis_max_points) (p.axis_points a l))

  -- the AXIS_DESCR of a CURVE and of a MAP are there
  axis-below : (i n : ℕ) → slot d object i block_code ≡ CHARACTERISTIC → n < axes_of (slot d object i object_type) → axis_at (view d) i n < count d axis
  unfolding sections
  axis-below i n e h =
      let m : count d axis ≤ most_axes = fit-few sections d axis k.good in
      omega (arith, p.axes i e)

  module _ (i : ℕ) (e : slot d object i block_code ≡ CHARACTERISTIC) where
    block-counted : slot d object i object_type ≡ VAL-BLK → Counted (block_need (view d) i)
    unfolding block_need points_of
    block-counted t = (omega (arith, p.numbers i e t), none-points)

    curve-counted : slot d object i object_type ≡ CURVE → Counted (curve_need image base x (view d) i)
    unfolding curve_need
    curve-counted t = (axis-some (axis_at (view d) i 0) (axis-below i 0 e (rw t (omega arith))), none-points)

    map-counted : slot d object i object_type ≡ MAP → Counted (map_need image base x (view d) i)
    unfolding map_need
    map-counted t = (axis-some (axis_at (view d) i 0) (axis-below i 0 e (rw t (omega arith))), axis-some (axis_at (view d) i 1) (axis-below i 1 e (rw t (omega arith))))

    characteristic-counted : Counted (characteristic_need image base x (view d) i)
    unfolding characteristic_need
    characteristic-counted =
        by-test Counted (eqb (slot d object i object_type) VAL-BLK) (λ t. block-counted (eqb-true (slot d object i object_type) VAL-BLK t))
        (λ t. by-test Counted (eqb (slot d object i object_type) CURVE) (λ u. curve-counted (eqb-true (slot d object i object_type) CURVE u))
        (λ u. by-test Counted (eqb (slot d object i object_type) MAP) (λ w. map-counted (eqb-true (slot d object i object_type) MAP w)) (λ w. (none-points, none-points))))

  need-counted : (i : ℕ) → Counted (need_of image base x (view d) i)
  unfolding need_of
  need-counted i =
      by-test Counted (eqb (slot d object i block_code) AXIS-PTS) (λ t. points-counted i (eqb-true (slot d object i block_code) AXIS-PTS t))
      (λ t. by-test Counted (eqb (slot d object i block_code) CHARACTERISTIC) (λ u. characteristic-counted i (eqb-true (slot d object i block_code) CHARACTERISTIC u)) (λ u. (none-points, none-points)))

  -- each object has a point in x and in y
  pub some-points : (i : ℕ) → i < count d object → (1 ≤ (places_of image base x (view d) i).cx) × (1 ≤ (places_of image base x (view d) i).cy)
  some-points i l = ((stood i l).some_x (need-counted i).0, (stood i l).some_y (need-counted i).1)
