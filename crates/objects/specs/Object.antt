-- Each object as a load judges it, by the records that were read: its layout, what it needs, the ground it stands on.
-- (A number that a record holds is at most what its parameter's type allows; the least of it and that greatest number is the number itself.)
use Rattle.std.specs.Prelude.{ℕ, ◌+◌, ◌-◌, min, List, Bool, true, false, cond, ◌||◌, eqb}
use Rattle.number.specs.Answer.{Answer, given, refused}
use Rattle.number.specs.Most.{most_axes}
use Rattle.cell.specs.Kind.{shape_of, is_type}
use Rattle.cell.specs.Mask.{mask_rule}
use Rattle.rows.specs.Codes.{AXIS-PTS, CHARACTERISTIC, MEASUREMENT, MSB-FIRST, VAL-BLK, CURVE, MAP, COM-AXIS}
use Rattle.rows.specs.Sections.{file, layout, object, axis}
use Rattle.rows.specs.Slots.{first_held, block_code, common_byte_order, common_alignment_byte, common_alignment_word, common_alignment_long, layout_alignment_byte, layout_alignment_word, layout_alignment_long, fnc_values_position, fnc_values_type, axis_pts_x_position, axis_pts_x_type, axis_pts_y_position, axis_pts_y_type, no_axis_pts_x_position, no_axis_pts_x_type, no_axis_pts_y_position, no_axis_pts_y_type, object_type, object_address, object_layout, object_layout_past, object_max_points, object_byte_order, bit_mask_seen, bit_mask, number_of_values, axis_attribute, axis_max_points, axis_pts_ref, axis_pts_ref_past}
use Rattle.grammar.specs.Move.{View}
use Rattle.grammar.specs.Parameter.{find}
use Rattle.place.specs.Walk.{placement}
use Rattle.place.specs.Judge.{elements_stored, judged_object}
use Rattle.place.specs.declared.judge.Standing.{Standing}
use Rattle.place.specs.declared.order.Aligns.{Aligns}
use Rattle.place.specs.declared.order.Entry.{Entry}
use Rattle.place.specs.declared.order.Layout.{Layout}
use Rattle.place.specs.declared.rules.Axis.{Axis}
use Rattle.place.specs.declared.rules.Need.{Need}
use Rattle.place.specs.declared.walk.Ground.{Ground}
use Rattle.place.specs.declared.walk.Places.{Places}
use Rattle.place.specs.declared.walk.Reached.{Reached}
use Rattle.objects.specs.declared.basis.Basis.{Basis}

-- the record of section j that the name from a up to e leads to (the references have been judged: there is one)
abbrev pub led : List ℕ → View → ℕ → ℕ → ℕ → ℕ
led x v j a e = find x v j a e - 1

-- ---- the layout

-- what a layout says of a part: its Position in slot p, its data type in slot k; it has the part where there is a data type
unfoldable pub part : View → ℕ → ℕ → ℕ → Entry
part v l p k = record { present = is_type (v.slots layout l k); position = min (v.slots layout l p) 65535; kind = v.slots layout l k }

-- "Layout parts: FNC_VALUES, AXIS_PTS_X/_Y, NO_AXIS_PTS_X/_Y"
unfoldable pub layout_at : View → ℕ → Layout
layout_at v l =
    record {
      values = part v l fnc_values_position fnc_values_type;
      x = part v l axis_pts_x_position axis_pts_x_type;
      y = part v l axis_pts_y_position axis_pts_y_type;
      nx = part v l no_axis_pts_x_position no_axis_pts_x_type;
      ny = part v l no_axis_pts_y_position no_axis_pts_y_type;
    }

abbrev pub no_entry : Entry
no_entry = record { present = false; position = 0; kind = 0 }

-- a MEASUREMENT has no layout of its own: one value of its data type
unfoldable pub measured : ℕ → Layout
measured k = record { values = record { present = is_type k; position = 0; kind = k }; x = no_entry; y = no_entry; nx = no_entry; ny = no_entry }

module _ (x : List ℕ) (v : View) where
  -- the number of object i's layout
  abbrev pub layout_number : ℕ → ℕ
  layout_number i = led x v layout (v.slots object i object_layout) (v.slots object i object_layout_past)

  unfoldable pub layout_of : ℕ → Layout
  layout_of i = cond (eqb (v.slots object i block_code) MEASUREMENT) (measured (v.slots object i object_type)) (layout_at v (layout_number i))

-- ---- the ground

-- "A layout's alignment words go before MOD_COMMON's.": slot k of the layout, slot c of the file's record; 0 is not set
unfoldable pub word : View → ℕ → ℕ → ℕ → ℕ
word v l k c = cond (eqb (v.slots layout l k) 0) (min (v.slots file 0 c) 255) (min (v.slots layout l k) 255)

unfoldable pub aligns_of : View → ℕ → Aligns
aligns_of v l =
    record {
      byte = word v l layout_alignment_byte common_alignment_byte;
      word = word v l layout_alignment_word common_alignment_word;
      long = word v l layout_alignment_long common_alignment_long;
    }

-- "Byte order: the object's, else MOD_COMMON's, else MSB_LAST."
unfoldable pub first_of : View → ℕ → Bool
first_of v i = cond (eqb (v.slots object i object_byte_order) 0) (eqb (v.slots file 0 common_byte_order) MSB-FIRST) (eqb (v.slots object i object_byte_order) MSB-FIRST)

-- (a MEASUREMENT has one part, which no alignment moves)
unfoldable pub ground_of : List ℕ → View → ℕ → ℕ → Ground
ground_of x v base i =
    record { address = min (v.slots object i object_address) 4294967295; base = base; first = first_of v i; aligns = aligns_of v (layout_number x v i) }

-- what object i rests on
abbrev pub basis_of : List ℕ → View → ℕ → ℕ → Basis
basis_of x v base i = record { number = layout_number x v i; layout = layout_of x v i; footing = ground_of x v base i }

-- ---- the need

abbrev pub no_axis : Axis
no_axis = record { stored = false; most = 1; points = 1 }

abbrev pub own_axis : ℕ → Axis
own_axis most = record { stored = true; most = most; points = most }

-- one value; an AXIS_PTS: its points in x, at most MaxAxisPoints
abbrev pub value_need : Need
value_need = record { values = true; x = no_axis; y = no_axis }

unfoldable pub axis_pts_need : View → ℕ → Need
axis_pts_need v i = record { values = false; x = own_axis (min (v.slots object i object_max_points) 256); y = no_axis }

-- a VAL_BLK: NUMBER values
unfoldable pub block_need : View → ℕ → Need
block_need v i = record { values = true; x = record { stored = false; most = min (v.slots object i number_of_values) 65535; points = min (v.slots object i number_of_values) 65535 }; y = no_axis }

-- the place of AXIS_DESCR k of object i among all of them
abbrev pub axis_at : View → ℕ → ℕ → ℕ
axis_at v i k = min (v.slots object i first_held) most_axes + k

-- the AXIS_PTS that AXIS_DESCR a names
abbrev pub shared_by : List ℕ → View → ℕ → ℕ
shared_by x v a = led x v object (v.slots axis a axis_pts_ref) (v.slots axis a axis_pts_ref_past)

abbrev pub points_in : Answer Reached → ℕ
points_in (given s) = s.places.cx
points_in (refused k) = 0

abbrev pub no_places : Places
no_places = record { values = 0; x = 0; y = 0; nx = 0; ny = 0; cx = 0; cy = 0 }

abbrev pub places_in : Answer Reached → Places
places_in (given s) = s.places
places_in (refused k) = no_places

-- "mask breaks its rule" (11) where this is false: the mask is for the values
unfoldable pub mask_fits : List ℕ → View → ℕ → Bool
mask_fits x v i = eqb (v.slots object i bit_mask_seen) 0 || mask_rule (shape_of (layout_of x v i).values.kind) (v.slots object i bit_mask)

module _ (image : List ℕ) (base : ℕ) (x : List ℕ) (v : View) where
  -- "for COM_AXIS it is that of the AXIS_PTS named": how many points AXIS_PTS s has
  unfoldable pub shared_points : ℕ → ℕ
  shared_points s = points_in (placement (ground_of x v base s) (axis_pts_need v s) image (layout_of x v s))

  -- AXIS_DESCR a: "STD_AXIS, COM_AXIS with AXIS_PTS_REF"
  unfoldable pub axis_need : ℕ → Axis
  axis_need a =
      cond (eqb (v.slots axis a axis_attribute) COM-AXIS)
      (record { stored = false; most = min (v.slots axis a axis_max_points) 256; points = shared_points (shared_by x v a) })
      (own_axis (min (v.slots axis a axis_max_points) 256))

  -- a CURVE and a MAP: values over their axes
  unfoldable pub curve_need : ℕ → Need
  curve_need i = record { values = true; x = axis_need (axis_at v i 0); y = no_axis }

  unfoldable pub map_need : ℕ → Need
  map_need i = record { values = true; x = axis_need (axis_at v i 0); y = axis_need (axis_at v i 1) }

  -- "VALUE, VAL_BLK with NUMBER, CURVE, MAP"
  unfoldable pub characteristic_need : ℕ → Need
  characteristic_need i =
      cond (eqb (v.slots object i object_type) VAL-BLK) (block_need v i)
      (cond (eqb (v.slots object i object_type) CURVE) (curve_need i)
      (cond (eqb (v.slots object i object_type) MAP) (map_need i)
      value_need))

  unfoldable pub need_of : ℕ → Need
  need_of i =
      cond (eqb (v.slots object i block_code) AXIS-PTS) (axis_pts_need v i)
      (cond (eqb (v.slots object i block_code) CHARACTERISTIC) (characteristic_need i)
      value_need)

  -- "each object's layout and mask (11), counts (12, 13), share of the element total (8), element bytes (12)", after others with so many elements
  unfoldable pub judge_object : ℕ → ℕ → Answer Standing
  judge_object i used = cond (mask_fits x v i) (judged_object image (ground_of x v base i) (need_of i) (layout_of x v i) used) (refused 11)

  -- where object i's parts stand
  unfoldable pub places_of : ℕ → Places
  places_of i = places_in (placement (ground_of x v base i) (need_of i) image (layout_of x v i))

  -- how many elements object i has of its own
  unfoldable pub elements_of : ℕ → ℕ
  elements_of i = elements_stored (need_of i) (places_of i)
