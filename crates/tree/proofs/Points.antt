-- What specs/Points.antt says is true of the records of every description that was read.
use Prim.Native.Nat.{ℕ, ◌≤◌}
use mathlib.Core.Path.{◌≡◌, refl}
use mathlib.Core.List.{List}
use mathlib.Core.Logic.{inl, inr}
use native.Mathlib.Omega.{arith}
use Rattle.text.specs.Answer.{given}
use Rattle.records.specs.Records.{slot}
use Rattle.rows.specs.Codes.{COMPU-METHOD, AXIS-DESCR, TAB-VERB, COM-AXIS}
use Rattle.rows.specs.Sections.{sections, method, object, axis}
use Rattle.rows.specs.Slots.{conversion_type, compu_tab_ref_seen, compu_tab_ref_past, object_conversion_past, number_seen, number_of_values, axis_attribute, axis_conversion_past, axis_max_points, axis_pts_ref_seen, axis_pts_ref_past}
use Rattle.rows.specs.Rows.{rows, needed}
use Rattle.grammar.specs.Read.{read}
use Rattle.facts.proofs.Moves.{wide_of}
use Rattle.tree.specs.Tree.{Records}
use Rattle.tree.specs.Points.{Pointed}
use Rattle.tree.proofs.SlotLaws.{methods, objects, axes, Filled, Paired, read-filled, read-paired, read-needed}
use Rattle.tree.proofs.Objects.{Sound, Whole, read-objects}

module _ (x : List ℕ) (d : Records) (r : read x ≡ given d) where
  numbers : Paired object number_seen number_of_values d
  unfolding rows sections wide_of
  numbers = read-paired object number_seen number_of_values (omega arith) x objects refl d r

  conversions : Filled object object_conversion_past d
  unfolding rows sections wide_of
  conversions = read-filled object object_conversion_past (omega arith) x objects refl d r

  axis-conversions : Filled axis axis_conversion_past d
  unfolding rows sections wide_of
  axis-conversions = read-filled axis axis_conversion_past (omega arith) x axes refl d r

  axis-points : Filled axis axis_max_points d
  unfolding rows sections wide_of
  axis-points = read-filled axis axis_max_points (omega arith) x axes refl d r

  axis-references : (a : ℕ) → slot d axis a axis_attribute ≡ COM-AXIS → 1 ≤ slot d axis a axis_pts_ref_past
  unfolding rows needed sections wide_of
  axis-references a e =
      read-paired axis axis_pts_ref_seen axis_pts_ref_past (omega arith) x axes refl d r a
      (read-needed AXIS-DESCR axis axis_attribute COM-AXIS axis_pts_ref_seen x axes (inr (inr (inr (inr (inr (inr (inr (inl refl)))))))) refl refl (omega arith) d r a e)

  table-references : (m : ℕ) → slot d method m conversion_type ≡ TAB-VERB → 1 ≤ slot d method m compu_tab_ref_past
  unfolding rows needed sections wide_of
  table-references m e =
      read-paired method compu_tab_ref_seen compu_tab_ref_past (omega arith) x methods refl d r m
      (read-needed COMPU-METHOD method conversion_type TAB-VERB compu_tab_ref_seen x methods (inr (inr (inr (inl refl)))) refl refl (omega arith) d r m e)

  pub read-pointed : Pointed d
  read-pointed =
      let s : Sound d = (read-objects x d r).0 in
      let whole : (i : ℕ) → Whole d i = (read-objects x d r).1 in
      record {
        points = s.points;
        numbers = λ i e t. numbers i ((whole i e).0 t);
        axis_points = axis-points;
        axes = λ i e. omega (arith, s.spans i, (whole i e).1);
        references = axis-references;
        converted = conversions;
        axis_converted = axis-conversions;
        tabled = table-references;
      }
