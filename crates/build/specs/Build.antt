-- The tables of a description that was accepted: what calls need of its records and of where its objects stand.
use Rattle.std.specs.Prelude.{ℕ, zero, suc, ◌+◌, ◌-◌, ◌*◌, min, List, [], ◌∷◌, ◌++◌, Bool, true, false, cond, not, ◌&&◌, ◌||◌, eqb, ltb, ℤ, pos, negsuc, nat_abs, replicate}
use Rattle.number.specs.Answer.{Answer, given, refused}
use Rattle.number.specs.Decimal.{Scaled}
use Rattle.text.specs.Bytes.{spells}
use Rattle.convert.specs.Method.{identical_of}
use Rattle.convert.specs.declared.method.Coefficients.{Coefficients}
use Rattle.rows.specs.Codes.{AXIS-PTS, CHARACTERISTIC, MEASUREMENT, VALUE, VAL-BLK, CURVE, MAP, COLUMN-DIR, INDEX-DECR, IDENTICAL, LINEAR, RAT-FUNC, TAB-VERB}
use Rattle.rows.specs.Sections.{file, method, table, entry, layout, object, axis}
use Rattle.rows.specs.Slots.{own_name, own_name_past, first_held, block_code, conversion_type, compu_tab_ref, compu_tab_ref_past, default_value, default_value_past, entry_sign, entry_size, entry_text, entry_text_past, fnc_values_mode, axis_pts_x_order, axis_pts_y_order, object_type, object_conversion, object_lower_limit, object_upper_limit, bit_mask_seen, bit_mask, object_read_only_seen, axis_conversion, axis_lower_limit, axis_upper_limit, axis_read_only_seen}
use Rattle.grammar.specs.Move.{View, decimal_slots}
use Rattle.grammar.specs.Parameter.{find}
use Rattle.methods.specs.Methods.{coefficients}
use Rattle.place.specs.declared.order.Entry.{Entry}
use Rattle.tables.specs.Form.{group_width}
use Rattle.tables.specs.declared.setting.Setting.{Setting}
use Rattle.objects.specs.Object.{layout_number, layout_of, first_of, axis_at, need_of, places_of}
use Rattle.build.specs.declared.part.Source.{Source}
use Rattle.build.specs.declared.part.Known.{Known}

-- a flag as a number
abbrev pub flag : Bool → ℕ
flag true = 1
flag false = 0

-- one row for each number below n
unfoldable pub rows_below : ℕ → (ℕ → List ℕ) → List (List ℕ)
rows_below zero f = []
rows_below (suc n) f = rows_below n f ++ (f n ∷ [])

-- ---- objects

-- "VALUE, VAL_BLK with NUMBER, CURVE, MAP", by the word's code
unfoldable pub type_of : ℕ → ℕ
type_of k = cond (eqb k VAL-BLK) VAL-BLK (cond (eqb k CURVE) CURVE (cond (eqb k MAP) MAP VALUE))

-- what an object is, by its word's code
unfoldable pub what_of : View → ℕ → ℕ
what_of v i = cond (eqb (v.slots object i block_code) AXIS-PTS) AXIS-PTS (cond (eqb (v.slots object i block_code) CHARACTERISTIC) (type_of (v.slots object i object_type)) MEASUREMENT)

abbrev pub object_row : View → ℕ → List ℕ
object_row v i = v.slots object i own_name ∷ v.slots object i own_name_past ∷ what_of v i ∷ []

-- ---- parts. Where a part's conversion, limits and READ_ONLY stand: section, record, slots

-- "A stored axis of a CURVE or MAP has its AXIS_DESCR's conversion, limits and READ_ONLY; the object's own and its mask are for the values."
abbrev pub of_object : ℕ → Source
of_object i = record { sec = object; number = i; conversion = object_conversion; lower = object_lower_limit; upper = object_upper_limit; only = object_read_only_seen }

abbrev pub of_axis : ℕ → Source
of_axis a = record { sec = axis; number = a; conversion = axis_conversion; lower = axis_lower_limit; upper = axis_upper_limit; only = axis_read_only_seen }

-- "the word NO_COMPU_METHOD" is 0, else the method's number and one more
unfoldable pub method_number : List ℕ → View → ℕ → ℕ → ℕ
method_number x v a e = cond (spells x a e "NO_COMPU_METHOD") 0 (find x v method a e)

abbrev pub decimal_cells : Scaled → List ℕ
decimal_cells d = flag d.negative ∷ d.whole ∷ d.tens ∷ []

-- the number of a source's method
unfoldable pub method_in : List ℕ → View → Source → ℕ
method_in x v s = method_number x v (v.slots s.sec s.number s.conversion) (v.slots s.sec s.number (s.conversion + 1))

-- writing is forbidden by what the part is, or by READ_ONLY
unfoldable pub forbids : View → Source → Bool → ℕ
forbids v s forbidden = flag (forbidden || not (eqb (v.slots s.sec s.number s.only) 0))

-- lower and upper limit
unfoldable pub limit_cells : View → Source → List ℕ
limit_cells v s = decimal_cells (decimal_slots v s.sec s.number s.lower) ++ decimal_cells (decimal_slots v s.sec s.number s.upper)

-- method, mask, writing forbidden, lower and upper limit: from method_cell on
unfoldable pub meaning : List ℕ → View → Source → ℕ → Bool → List ℕ
meaning x v s mask forbidden = method_in x v s ∷ mask ∷ forbids v s forbidden ∷ limit_cells v s

-- data type, byte order, place in the image, points in x and y, room in x and y, walk: from kind_cell on. Packed layouts hold equal numbers.
abbrev pub standing_cells : ℕ → Bool → ℕ → ℕ → ℕ → ℕ → List ℕ
standing_cells kind first place cx cy walk = kind ∷ flag first ∷ place ∷ cx ∷ cy ∷ cx ∷ cy ∷ walk ∷ []

-- a stored count's data type and place: from counter_cell on
abbrev pub counter_cells : Entry → ℕ → List ℕ
counter_cells e place = cond e.present e.kind 0 ∷ cond e.present place 0 ∷ []

-- a part that the object does not store
abbrev pub no_part_cells : List ℕ
no_part_cells = replicate group_width 0

-- "INDEX_DECR stores the axis's last point first"; "COLUMN_DIR: y runs fastest" (index mode has an effect in a MAP only)
abbrev pub axis_walk : ℕ → ℕ
axis_walk word = flag (eqb word INDEX-DECR)

-- (l is the number of the object's layout)
unfoldable pub values_walk : View → ℕ → ℕ → ℕ
values_walk v i l = cond (eqb (what_of v i) MAP && eqb (v.slots layout l fnc_values_mode) COLUMN-DIR) 2 0

-- a BIT_MASK, 0 where there is none
unfoldable pub mask_of : View → ℕ → ℕ
mask_of v i = cond (eqb (v.slots object i bit_mask_seen) 0) 0 (v.slots object i bit_mask)

-- x's source: an AXIS_PTS has its own conversion, limits and READ_ONLY
abbrev pub x_source : View → ℕ → Source
x_source v i = cond (eqb (v.slots object i block_code) AXIS-PTS) (of_object i) (of_axis (axis_at v i 0))

-- an object's parts, by what is known of it: what it needs, its layout, where its parts stand, its byte order and its layout's number
module _ (base : ℕ) (x : List ℕ) (v : View) (i : ℕ) (o : Known) where
  unfoldable pub x_part : List ℕ
  x_part =
      cond o.need.x.stored
      (standing_cells o.layout.x.kind o.first (o.places.x - base) o.places.cx 1 (axis_walk (v.slots layout o.number axis_pts_x_order))
      ++ (meaning x v (x_source v i) 0 false ++ counter_cells o.layout.nx (o.places.nx - base)))
      no_part_cells

  unfoldable pub y_part : List ℕ
  y_part =
      cond o.need.y.stored
      (standing_cells o.layout.y.kind o.first (o.places.y - base) o.places.cy 1 (axis_walk (v.slots layout o.number axis_pts_y_order))
      ++ (meaning x v (of_axis (axis_at v i 1)) 0 false ++ counter_cells o.layout.ny (o.places.ny - base)))
      no_part_cells

  -- "MEASUREMENT or READ_ONLY" is not written
  unfoldable pub values_part : List ℕ
  values_part =
      cond o.need.values
      (standing_cells o.layout.values.kind o.first (o.places.values - base) o.places.cx o.places.cy (values_walk v i o.number)
      ++ (meaning x v (of_object i) (mask_of v i) (eqb (what_of v i) MEASUREMENT) ++ (0 ∷ 0 ∷ [])))
      no_part_cells

module _ (image : List ℕ) (base : ℕ) (x : List ℕ) (v : View) where
  -- what is known of object i
  unfoldable pub known_of : ℕ → Known
  known_of i =
      record {
        need = need_of image base x v i;
        layout = layout_of x v i;
        places = places_of image base x v i;
        first = first_of v i;
        number = layout_number x v i;
      }

  abbrev pub x_row : ℕ → List ℕ
  x_row i = x_part base x v i (known_of i)

  abbrev pub y_row : ℕ → List ℕ
  y_row i = y_part base x v i (known_of i)

  abbrev pub values_row : ℕ → List ℕ
  values_row i = values_part base x v i (known_of i)

  -- the groups of the objects below n
  unfoldable pub groups_below : ℕ → List (List ℕ)
  groups_below zero = []
  groups_below (suc n) = groups_below n ++ (x_row n ∷ y_row n ∷ values_row n ∷ [])

-- ---- methods

-- a whole number's two cells
abbrev pub is_below : ℤ → Bool
is_below (pos n) = false
is_below (negsuc n) = true

abbrev pub number_cells : ℤ → List ℕ
number_cells z = flag (is_below z) ∷ nat_abs z ∷ []

-- (the conversions have been judged: there are coefficients)
abbrev pub coefficients_in : Answer Coefficients → Coefficients
coefficients_in (given k) = k
coefficients_in (refused n) = identical_of

-- IDENTICAL, LINEAR or RAT_FUNC
unfoldable pub conversion_of : View → ℕ → ℕ
conversion_of v i = cond (eqb (v.slots method i conversion_type) LINEAR) LINEAR (cond (eqb (v.slots method i conversion_type) RAT-FUNC) RAT-FUNC IDENTICAL)

abbrev pub coefficient_cells : Coefficients → List ℕ
coefficient_cells k = number_cells k.b ++ (number_cells k.c ++ (number_cells k.e ++ number_cells k.f))

abbrev pub fraction_row : View → ℕ → List ℕ
fraction_row v i = conversion_of v i ∷ coefficient_cells (coefficients_in (coefficients v i)) ++ (0 ∷ [])

-- "TAB_VERB with COMPU_TAB_REF to a COMPU_VTAB": the table's number and one more
abbrev pub table_number : List ℕ → View → ℕ → ℕ
table_number x v i = find x v table (v.slots method i compu_tab_ref) (v.slots method i compu_tab_ref_past)

-- the row of a method with the verbal table of a number
abbrev pub verbal_row : ℕ → List ℕ
verbal_row n = TAB-VERB ∷ replicate 8 0 ++ (n ∷ [])

unfoldable pub method_row : List ℕ → View → ℕ → List ℕ
method_row x v i = cond (eqb (v.slots method i conversion_type) TAB-VERB && not (eqb (table_number x v i) 0)) (verbal_row (table_number x v i)) (fraction_row v i)

-- ---- verbal tables

-- a table's entries go up to the next table's first
unfoldable pub entries_end : View → ℕ → ℕ
entries_end v i = cond (ltb (i + 1) (v.counts table)) (v.slots table (i + 1) first_held) (v.counts entry)

abbrev pub table_row : View → ℕ → List ℕ
table_row v i = v.slots table i first_held ∷ (entries_end v i - v.slots table i first_held) ∷ v.slots table i default_value ∷ v.slots table i default_value_past ∷ []

abbrev pub entry_row : View → ℕ → List ℕ
entry_row v i = min (v.slots entry i entry_sign) 1 ∷ v.slots entry i entry_size ∷ v.slots entry i entry_text ∷ v.slots entry i entry_text_past ∷ []

-- ---- all of it: head ("The load takes the edition, .. and the tables keep it."), objects, groups, methods, tables, entries
unfoldable pub built : List ℕ → Setting → List ℕ → View → ℕ → List (List (List ℕ))
built image s x v elements =
    ((s.edition ∷ 0 ∷ elements ∷ []) ∷ [])
    ∷ rows_below (v.counts object) (object_row v)
    ∷ groups_below image s.base x v (v.counts object)
    ∷ rows_below (v.counts method) (method_row x v)
    ∷ rows_below (v.counts table) (table_row v)
    ∷ rows_below (v.counts entry) (entry_row v)
    ∷ []
