-- The objects of the tables that are built keep the table rule: each has the parts that what it is asks for.
use Prim.Native.Nat.{ℕ, ◌+◌, ◌*◌, ◌<◌}
use mathlib.Core.Path.{◌≡◌, refl, ◌∙◌, ap}
use mathlib.Core.List.{List}
use mathlib.Core.Bool.{Bool, true, false, not}
use mathlib.Core.Logic.{◌⊎◌, inl, inr}
use native.Mathlib.Omega.{arith}
use borrow.Author.Tests.{eq-eqb}
use lib.Dec.{eqb}
use lib.ListN.{length, get_or}
use Rattle.records.specs.Records.{count, slot}
use Rattle.rows.specs.Codes.{AXIS-PTS, CHARACTERISTIC, MEASUREMENT, VALUE, VAL-BLK, CURVE, MAP}
use Rattle.rows.specs.Sections as records
use Rattle.rows.specs.Slots.{own_name, own_name_past, block_code, object_type}
use Rattle.grammar.specs.Move.{View, view}
use Rattle.facts.specs.Facts.{Kept}
use Rattle.place.specs.declared.rules.Axis.{Axis}
use Rattle.place.specs.declared.rules.Need.{Need}
use Rattle.objects.specs.Object.{no_axis, value_need, axis_pts_need, block_need, curve_need, map_need, characteristic_need, need_of, places_of}
use Rattle.tables.specs.declared.setting.Setting.{Setting}
use Rattle.tables.specs.Form.{object_section, group_section, Tables, tables_of, kind, x, y}
use Rattle.tables.specs.Rule.{axis_pts_rule, block_rule, value_rule, measurement_rule, curve_rule, map_rule, parts_rule, object_rule}
use Rattle.build.specs.Build.{limit_cells, forbids, meaning, type_of, what_of, of_object, values_part, values_row, known_of, built}
use Rattle.build.proofs.BuiltLaws.{Within, within_of, slot-object, slot-values}
use Rattle.keeps.proofs.Bits.{and, both-test}
use Rattle.keeps.proofs.Rows.{text-keeps}
use Rattle.keeps.proofs.Stood.{Stood}
use Rattle.keeps.proofs.Groups.{Pointing, x-ruling, y-ruling, values-ruling}

-- ---- what an object is, and what it needs

data Suits (what : ℕ) (n : Need) : Type 0 where
  points : what ≡ AXIS-PTS → n.x.stored ≡ true → n.y.stored ≡ false → n.values ≡ false → Suits what n
  single : (what ≡ VALUE) ⊎ (what ≡ MEASUREMENT) → n ≡ value_need → Suits what n
  block : what ≡ VAL-BLK → n.x.stored ≡ false → n.y ≡ no_axis → n.values ≡ true → Suits what n
  curve : what ≡ CURVE → n.y ≡ no_axis → n.values ≡ true → Suits what n
  map : what ≡ MAP → n.values ≡ true → Suits what n

module _ (image : List ℕ) (base : ℕ) (t : List ℕ) (v : View) (i : ℕ) where
  points-suit : Suits AXIS-PTS (axis_pts_need v i)
  unfolding axis_pts_need
  points-suit = points refl refl refl refl

  block-suits : Suits VAL-BLK (block_need v i)
  unfolding block_need
  block-suits = block refl refl refl refl

  curve-suits : Suits CURVE (curve_need image base t v i)
  unfolding curve_need
  curve-suits = curve refl refl refl

  map-suits : Suits MAP (map_need image base t v i)
  unfolding map_need
  map-suits = map refl refl

  characteristic-suits : Suits (type_of (v.slots records.object i object_type)) (characteristic_need image base t v i)
  unfolding type_of characteristic_need
  characteristic-suits =
      both-test Suits (eqb (v.slots records.object i object_type) VAL-BLK) (λ e. block-suits)
      (λ e. both-test Suits (eqb (v.slots records.object i object_type) CURVE) (λ f. curve-suits)
      (λ f. both-test Suits (eqb (v.slots records.object i object_type) MAP) (λ g. map-suits) (λ g. single (inl refl) refl)))

  suits : Suits (what_of v i) (need_of image base t v i)
  unfolding what_of need_of
  suits =
      both-test Suits (eqb (v.slots records.object i block_code) AXIS-PTS) (λ e. points-suit)
      (λ e. both-test Suits (eqb (v.slots records.object i block_code) CHARACTERISTIC) (λ f. characteristic-suits) (λ f. single (inr refl) refl))

-- ---- the parts

stored-not : (b : Bool) → b ≡ false → not b ≡ true
stored-not b e = rw e

module _ (image : List ℕ) (setting : Setting) (t : List ℕ) (d : List (List (List ℕ))) (n : ℕ) (k : Kept t d) where
  abbrev T : Tables
  T = tables_of (built image setting t (view d) n)

  w : Within (view d)
  w = within_of d k.good

  module _ (i : ℕ) (l : i < count d records.object) (s : Stood image setting.base t (view d) i) (o : Pointing image setting t d n k i l s) where
    abbrev need : Need
    need = need_of image setting.base t (view d) i

    x-stored : not (eqb (kind T (i * 3 + 0)) 0) ≡ need.x.stored
    x-stored = let z : i * 3 + 0 ≡ i * 3 = omega arith in rw z (x-ruling image setting t d n k i l s o).stored_is

    y-stored : not (eqb (kind T (i * 3 + 1)) 0) ≡ need.y.stored
    y-stored = (y-ruling image setting t d n k i l s o).stored_is

    values-stored : not (eqb (kind T (i * 3 + 2)) 0) ≡ need.values
    values-stored = (values-ruling image setting t d n k i l s o).stored_is

    -- points in x and y, and whether writing is forbidden
    values-slots : need.values ≡ true → (T.slots group_section (i * 3 + 2) 3 ≡ (places_of image setting.base t (view d) i).cx) × (T.slots group_section (i * 3 + 2) 4 ≡ (places_of image setting.base t (view d) i).cy)
        × (T.slots group_section (i * 3 + 2) 10 ≡ forbids (view d) (of_object i) (eqb (what_of (view d) i) MEASUREMENT))
    unfolding values_part known_of meaning limit_cells
    values-slots e =
        let h : (j : ℕ) → T.slots group_section (i * 3 + 2) j ≡ get_or (values_row image setting.base t (view d) i) j 0 = λ j. slot-values image setting t (view d) n w i j l in
        (rw e at (h 3), rw e at (h 4), rw e at (h 10))

    -- where there is no axis there is one point
    one-row : need.values ≡ true → need.y ≡ no_axis → y T (i * 3 + 2) ≡ 1
    one-row e f =
        let m : need.y.most ≡ 1 = ap (λ (a : Axis). a.most) f in
        omega (arith, (values-slots e).1, s.held.points_y, o.1)

    one-column : need.values ≡ true → need.x ≡ no_axis → x T (i * 3 + 2) ≡ 1
    one-column e f =
        let m : need.x.most ≡ 1 = ap (λ (a : Axis). a.most) f in
        omega (arith, (values-slots e).0, s.held.points_x, o.0)

    points-keep : need.x.stored ≡ true → need.y.stored ≡ false → need.values ≡ false → axis_pts_rule T i ≡ true
    unfolding axis_pts_rule
    points-keep p q r = and (and (x-stored ∙ p) (stored-not _ (y-stored ∙ q))) (stored-not _ (values-stored ∙ r))

    block-keeps : need.x.stored ≡ false → need.y ≡ no_axis → need.values ≡ true → block_rule T i ≡ true
    unfolding block_rule
    block-keeps p q r =
        and (and (and (stored-not _ (x-stored ∙ p)) (stored-not _ (y-stored ∙ ap (λ (a : Axis). a.stored) q))) (values-stored ∙ r)) (eq-eqb (y T (i * 3 + 2)) 1 (one-row r q))

    value_keeps : need ≡ value_need → value_rule T i ≡ true
    unfolding value_rule
    value_keeps e =
        let r : need.values ≡ true = ap (λ (m : Need). m.values) e in
        and (block-keeps (ap (λ (m : Need). m.x.stored) e) (ap (λ (m : Need). m.y) e) r) (eq-eqb (x T (i * 3 + 2)) 1 (one-column r (ap (λ (m : Need). m.x) e)))

    -- "MEASUREMENT or READ_ONLY" is not written
    mark-is : what_of (view d) i ≡ MEASUREMENT → need.values ≡ true → T.slots group_section (i * 3 + 2) 10 ≡ 1
    unfolding forbids
    mark-is e r = (values-slots r).2 ∙ rw (eq-eqb (what_of (view d) i) MEASUREMENT e)

    measurement-keeps : what_of (view d) i ≡ MEASUREMENT → need ≡ value_need → measurement_rule T i ≡ true
    unfolding measurement_rule
    measurement-keeps e f = and (value_keeps f) (eq-eqb (T.slots group_section (i * 3 + 2) 10) 1 (mark-is e (ap (λ (m : Need). m.values) f)))

    curve-keeps : need.y ≡ no_axis → need.values ≡ true → curve_rule T i ≡ true
    unfolding curve_rule
    curve-keeps q r = and (and (stored-not _ (y-stored ∙ ap (λ (a : Axis). a.stored) q)) (values-stored ∙ r)) (eq-eqb (y T (i * 3 + 2)) 1 (one-row r q))

    map-keeps : need.values ≡ true → map_rule T i ≡ true
    unfolding map_rule
    map-keeps r = values-stored ∙ r

    parts-keep : parts_rule T i (what_of (view d) i) ≡ true
    unfolding parts_rule
    parts-keep = by-suit (suits image setting.base t (view d) i) where
      by-single : (what_of (view d) i ≡ VALUE) ⊎ (what_of (view d) i ≡ MEASUREMENT) → need ≡ value_need → parts_rule T i (what_of (view d) i) ≡ true
      by-single (inl e) f = rw e (value_keeps f)
      by-single (inr e) f = rw e (measurement-keeps e f)

      by-suit : Suits (what_of (view d) i) need → parts_rule T i (what_of (view d) i) ≡ true
      by-suit (points e p q r) = rw e (points-keep p q r)
      by-suit (single e f) = by-single e f
      by-suit (block e p q r) = rw e (block-keeps p q r)
      by-suit (curve e q r) = rw e (curve-keeps q r)
      by-suit (map e r) = rw e (map-keeps r)

    pub object-keeps : object_rule T (length t) i ≡ true
    unfolding object_rule
    object-keeps =
        let e = slot-object image setting t (view d) n w i in
        and (text-keeps (length t) (slot d records.object i own_name) (slot d records.object i own_name_past) (T.slots object_section i 0) (T.slots object_section i 1) (e 0 l) (e 1 l) (k.names records.object i refl))
        (ap (λ (m : ℕ). parts_rule T i m) (e 2 l) ∙ parts-keep)
