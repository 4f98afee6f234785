-- What the tables hold of a part of an object, by the records of its description: all that a call asks of it.
use Rattle.std.specs.Prelude.{ℕ, ◌+◌, ◌*◌, ◌≡◌, List, Bool, false, not, ◌||◌, eqb}
use Rattle.number.specs.Decimal.{Scaled}
use Rattle.cell.specs.Kind.{shape_of}
use Rattle.rows.specs.Codes.{MEASUREMENT}
use Rattle.rows.specs.Sections.{layout}
use Rattle.rows.specs.Slots.{axis_pts_x_order, axis_pts_y_order}
use Rattle.grammar.specs.Move.{View, decimal_slots}
use Rattle.place.specs.declared.order.Layout.{Layout}
use Rattle.place.specs.declared.walk.Places.{Places}
use Rattle.objects.specs.Object.{layout_number, first_of, axis_at}
use Rattle.build.specs.Build.{axis_walk, values_walk, mask_of, what_of, of_object, of_axis, x_source, method_in}
use Rattle.build.specs.declared.part.Source.{Source}
use Rattle.tables.specs.Form.{Tables, lower_cell, upper_cell, first, method_of, mask, forbidden, limit}
use Rattle.tables.specs.Group.{position, place_of}
use Rattle.keeps.specs.Stands.{Part, points_x, points_y, values, address_of, type_of, across_of, down_of, StandsAt}

module _ (x : List ℕ) (v : View) (i : ℕ) where
  -- "INDEX_DECR stores the axis's last point first" (1); "COLUMN_DIR: y runs fastest" (2); else as listed (0)
  abbrev pub walk_of : Part → ℕ
  walk_of points_x = axis_walk (v.slots layout (layout_number x v i) axis_pts_x_order)
  walk_of points_y = axis_walk (v.slots layout (layout_number x v i) axis_pts_y_order)
  walk_of values = values_walk v i (layout_number x v i)

  -- "the object's own and its mask are for the values"
  abbrev pub part_mask : Part → ℕ
  part_mask points_x = 0
  part_mask points_y = 0
  part_mask values = mask_of v i

  -- "A stored axis of a CURVE or MAP has its AXIS_DESCR's conversion, limits and READ_ONLY"
  abbrev pub source_of : Part → Source
  source_of points_x = x_source v i
  source_of points_y = of_axis (axis_at v i 1)
  source_of values = of_object i

  -- the name of its conversion: its first byte, and the place past it
  abbrev pub conversion_from : Part → ℕ
  conversion_from p = v.slots (source_of p).sec (source_of p).number (source_of p).conversion

  abbrev pub conversion_past : Part → ℕ
  conversion_past p = v.slots (source_of p).sec (source_of p).number ((source_of p).conversion + 1)

  -- "21: MEASUREMENT or READ_ONLY"
  abbrev pub measures : Part → Bool
  measures points_x = false
  measures points_y = false
  measures values = eqb (what_of v i) MEASUREMENT

  abbrev pub read_only : Part → Bool
  read_only p = measures p || not (eqb (v.slots (source_of p).sec (source_of p).number (source_of p).only) 0)

  -- lower and upper limit
  abbrev pub part_lower : Part → Scaled
  part_lower p = decimal_slots v (source_of p).sec (source_of p).number (source_of p).lower

  abbrev pub part_upper : Part → Scaled
  part_upper p = decimal_slots v (source_of p).sec (source_of p).number (source_of p).upper

  -- the address of the element with index j: "x fastest in a map whatever the storage", "ROW_DIR: x runs fastest", "COLUMN_DIR: y runs fastest", "INDEX_DECR
  -- stores the axis's last point first"
  abbrev pub element_at : Layout → Places → Part → ℕ → ℕ
  element_at l at p j = address_of at p + (shape_of (type_of l p)).bytes * position (walk_of p) (across_of at p) (across_of at p) (down_of at p) j

  -- group g is part p of object i, which stands at the places at by the layout l
  pub record PartHolds (T : Tables) (g base m : ℕ) (l : Layout) (at : Places) (p : Part) : Type 0 where
    -- "The first part stands at the object's address ..": its address, data type and points, and its bytes inside the image
    pub stands : StandsAt T g base m l at p
    pub element : (j : ℕ) → base + place_of T g j ≡ element_at l at p j
    -- "Byte order: the object's, else MOD_COMMON's, else MSB_LAST."
    pub order : first T g ≡ first_of v i
    pub masked : mask T g ≡ part_mask p
    pub converted : method_of T g ≡ method_in x v (source_of p)
    pub locked : forbidden T g ≡ read_only p
    pub lower : limit T g lower_cell ≡ part_lower p
    pub upper : limit T g upper_cell ≡ part_upper p
