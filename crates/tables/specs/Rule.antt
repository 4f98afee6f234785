-- "Table rule: every reference below its table's count, counts within capacity, each element's bytes and each stored count inside the image,
-- conversions and masks as above, limits in order, text places inside the description, no unused field other than zero."
-- n is the length of the description, m that of the image.
use Rattle.std.specs.Prelude.{ℕ, ◌+◌, ◌*◌, ◌-◌, ◌%◌, ◌^◌, List, Bool, true, false, cond, not, ◌&&◌, ◌||◌, eqb, ltb, leb, pos, length, get_or}
use Rattle.number.specs.Most.{most_elements, most_points}
use Rattle.cell.specs.Kind.{is_type, shape_of}
use Rattle.cell.specs.Mask.{mask_rule}
use Rattle.convert.specs.Edition.{is_edition}
use Rattle.convert.specs.Limit.{at_most}
use Rattle.convert.specs.Method.{sound_method, identical_of}
use Rattle.convert.specs.Whole.{eq_z}
use Rattle.convert.specs.declared.method.Coefficients.{Coefficients}
use Rattle.records.specs.Records.{width_of, most_of}
use Rattle.records.specs.Cells.{base_in, section_in, count_in}
use Rattle.rows.specs.Codes.{AXIS-PTS, MEASUREMENT, VALUE, VAL-BLK, CURVE, MAP, IDENTICAL, LINEAR, RAT-FUNC, TAB-VERB}
use Rattle.tables.specs.Form.{table_sections, head_section, object_section, group_section, method_section, table_section, entry_section, Tables, tables_in, size_mark_cell, name_cell, name_past_cell, what_cell, order_cell, forbidden_cell, lower_cell, upper_cell, counter_place_cell, group_width, conversion_cell, b_cell, c_cell, e_cell, f_cell, table_cell, first_entry_cell, entries_cell, default_cell, default_past_cell, sign_cell, text_cell, text_past_cell, edition, total, kind, place, x, y, wide, high, walk, method_of, mask, counter, counter_place, limit, coefficients}
use Rattle.number.specs.Below.{sum_below, all_below, any_below}
use Rattle.tables.specs.Group.{group_of, elements, bytes}

-- the conversions that have coefficients, and the one that has a verbal table
abbrev pub is_fraction : ℕ → Bool
is_fraction k = leb IDENTICAL k && leb k RAT-FUNC

abbrev pub is_verbal : ℕ → Bool
is_verbal k = eqb k TAB-VERB

-- "text places inside the description"
unfoldable pub text_rule : ℕ → ℕ → ℕ → Bool
text_rule n from past = leb from past && leb past n

-- so many bytes from a place on are inside the image
unfoldable pub inside_rule : ℕ → ℕ → ℕ → Bool
inside_rule m at many = leb (at + many) m

-- "IDENTICAL and NO_COMPU_METHOD are 1, 0, 0, 1."
unfoldable pub identical_rule : Coefficients → Bool
identical_rule k = eq_z k.b identical_of.b && eq_z k.c identical_of.c && eq_z k.e identical_of.e && eq_z k.f identical_of.f

-- "LINEAR .. has b, c, e, f of 10^t, −B, 0, A": a decimal has at most 6 digits after the point
unfoldable pub linear_rule : Coefficients → Bool
linear_rule k = any_below 7 (λ t. eq_z k.b (pos (10 ^ t))) && eq_z k.e (pos 0)

-- the coefficients that a conversion's word asks for; RAT_FUNC has any
unfoldable pub word_rule : ℕ → Coefficients → Bool
word_rule conversion k = cond (eqb conversion IDENTICAL) (identical_rule k) (cond (eqb conversion LINEAR) (linear_rule k) true)

module _ (T : Tables) where
  -- an object's parts, as what it is asks: those that it has no use for are not there, and those that it needs are
  module _ (i : ℕ) where
    -- the object stores its x points, its y points, its values
    abbrev pub stores_x : Bool
    stores_x = not (eqb (kind T (group_of i 0)) 0)

    abbrev pub stores_y : Bool
    stores_y = not (eqb (kind T (group_of i 1)) 0)

    abbrev pub stores_values : Bool
    stores_values = not (eqb (kind T (group_of i 2)) 0)

    -- values in one row
    abbrev pub one_row : Bool
    one_row = eqb (y T (group_of i 2)) 1

    -- an AXIS_PTS has x points alone
    unfoldable pub axis_pts_rule : Bool
    axis_pts_rule = stores_x && not stores_y && not stores_values

    -- a VAL_BLK has values alone, in one row
    unfoldable pub block_rule : Bool
    block_rule = not stores_x && not stores_y && stores_values && one_row

    -- a VALUE has one element
    unfoldable pub value_rule : Bool
    value_rule = block_rule && eqb (x T (group_of i 2)) 1

    -- so has a MEASUREMENT, and it is marked as not to be written: "MEASUREMENT or READ_ONLY" (21)
    unfoldable pub measurement_rule : Bool
    measurement_rule = value_rule && eqb (T.slots group_section (group_of i 2) forbidden_cell) 1

    -- a CURVE has values in one row, and x points where it stores them
    unfoldable pub curve_rule : Bool
    curve_rule = not stores_y && stores_values && one_row

    -- a MAP has values, and the points that it stores
    unfoldable pub map_rule : Bool
    map_rule = stores_values

    unfoldable pub parts_rule : ℕ → Bool
    parts_rule what =
        cond (eqb what AXIS-PTS) axis_pts_rule
        (cond (eqb what MEASUREMENT) measurement_rule
        (cond (eqb what VALUE) value_rule
        (cond (eqb what VAL-BLK) block_rule
        (cond (eqb what CURVE) curve_rule
        (cond (eqb what MAP) map_rule false)))))

  unfoldable pub object_rule : ℕ → ℕ → Bool
  object_rule n i = text_rule n (T.slots object_section i name_cell) (T.slots object_section i name_past_cell) && parts_rule i (T.slots object_section i what_cell)

  module _ (g : ℕ) where
    -- a part that the object does not store: "no unused field other than zero"
    unfoldable pub is_no_part : Bool
    is_no_part = all_below group_width (λ k. eqb (T.slots group_section g k) 0)

    -- a part that is stored has points; points and room are equal: parts are packed
    unfoldable pub points_rule : Bool
    points_rule =
        leb 1 (x T g) && leb (x T g) most_points && leb 1 (y T g) && leb (y T g) most_points
        && eqb (wide T g) (x T g) && eqb (high T g) (y T g)

    -- "each stored count inside the image"; where there is none, both numbers are zero
    unfoldable pub counter_rule : ℕ → Bool
    counter_rule m = eqb (counter T g) 0 && eqb (T.slots group_section g counter_place_cell) 0 || is_type (counter T g) && inside_rule m (counter_place T g) (shape_of (counter T g)).bytes

    -- an axis has at most 256 points and no mask
    unfoldable pub axis_rule : ℕ → Bool
    axis_rule m = leb (x T g) 256 && eqb (y T g) 1 && leb (walk T g) 1 && eqb (mask T g) 0 && counter_rule m

    -- values run with x or with y fastest, and have no stored count of their own
    unfoldable pub values_rule : Bool
    values_rule =
        (eqb (walk T g) 0 || eqb (walk T g) 2) && (eqb (mask T g) 0 || mask_rule (shape_of (kind T g)) (mask T g))
        && eqb (counter T g) 0 && eqb (T.slots group_section g counter_place_cell) 0

    -- "limits in order"
    unfoldable pub limits_rule : Bool
    limits_rule = leb (T.slots group_section g lower_cell) 1 && leb (T.slots group_section g upper_cell) 1 && at_most (limit T g lower_cell) (limit T g upper_cell)

    -- "each element's bytes .. inside the image"
    unfoldable pub bytes_rule : ℕ → Bool
    bytes_rule m = inside_rule m (place T g) (bytes T g * (wide T g * high T g))

    -- the first two parts of an object are axes, the third is its values
    unfoldable pub role_rule : ℕ → Bool
    role_rule m = cond (ltb (g % 3) 2) (axis_rule m) values_rule

    unfoldable pub part_rule : ℕ → Bool
    part_rule m =
        is_type (kind T g) && leb (T.slots group_section g order_cell) 1 && points_rule && bytes_rule m && role_rule m
        && leb (method_of T g) (T.counts method_section) && leb (T.slots group_section g forbidden_cell) 1 && limits_rule

    unfoldable pub group_rule : ℕ → Bool
    group_rule m = cond (eqb (kind T g) 0) is_no_part (part_rule m)

  -- "conversions .. as above"
  unfoldable pub verbal_rule : ℕ → Bool
  verbal_rule i = all_below 8 (λ k. eqb (T.slots method_section i (k + b_cell)) 0) && leb 1 (T.slots method_section i table_cell) && leb (T.slots method_section i table_cell) (T.counts table_section)

  unfoldable pub signs_rule : ℕ → Bool
  signs_rule i = leb (T.slots method_section i b_cell) 1 && leb (T.slots method_section i c_cell) 1 && leb (T.slots method_section i e_cell) 1 && leb (T.slots method_section i f_cell) 1

  unfoldable pub fraction_rule : ℕ → Bool
  fraction_rule i =
      is_fraction (T.slots method_section i conversion_cell) && signs_rule i && sound_method (coefficients T i)
      && word_rule (T.slots method_section i conversion_cell) (coefficients T i) && eqb (T.slots method_section i table_cell) 0

  unfoldable pub method_rule : ℕ → Bool
  method_rule i = cond (is_verbal (T.slots method_section i conversion_cell)) (verbal_rule i) (fraction_rule i)

  unfoldable pub table_rule : ℕ → ℕ → Bool
  table_rule n i = leb (T.slots table_section i first_entry_cell + T.slots table_section i entries_cell) (T.counts entry_section) && text_rule n (T.slots table_section i default_cell) (T.slots table_section i default_past_cell)

  unfoldable pub entry_rule : ℕ → ℕ → Bool
  entry_rule n i = leb (T.slots entry_section i sign_cell) 1 && text_rule n (T.slots entry_section i text_cell) (T.slots entry_section i text_past_cell)

  -- "The load takes the edition, 1 or 2, .. and the tables keep it."; "4,096 elements in all objects", as many as the head says; the size mark has no meaning yet
  unfoldable pub head_rule : Bool
  head_rule =
      eqb (T.counts head_section) 1 && is_edition (edition T) && eqb (T.slots head_section 0 size_mark_cell) 0
      && eqb (total T) (sum_below (T.counts group_section) (elements T)) && leb (total T) most_elements && eqb (T.counts group_section) (T.counts object_section * 3)

  unfoldable pub ruled : ℕ → ℕ → Bool
  ruled n m =
      head_rule && all_below (T.counts object_section) (object_rule n) && all_below (T.counts group_section) (λ g. group_rule g m)
      && all_below (T.counts method_section) method_rule && all_below (T.counts table_section) (table_rule n) && all_below (T.counts entry_section) (entry_rule n)

-- "counts within capacity": the cell that counts section j's records
unfoldable pub count_fits : List ℕ → ℕ → Bool
count_fits t j = leb (get_or t (base_in table_sections j) 0) (most_of table_sections j)

-- "no unused field other than zero": the cells of section j past its records
abbrev pub unused_from : List ℕ → ℕ → ℕ
unused_from t j = base_in table_sections j + (1 + width_of table_sections j * count_in t (section_in table_sections j))

abbrev pub unused_cells : List ℕ → ℕ → ℕ
unused_cells t j = width_of table_sections j * most_of table_sections j - width_of table_sections j * count_in t (section_in table_sections j)

unfoldable pub unused_zero : List ℕ → ℕ → Bool
unused_zero t j = all_below (unused_cells t j) (λ k. eqb (get_or t (unused_from t j + k) 0) 0)

unfoldable pub form_rule : List ℕ → Bool
form_rule t = all_below (length table_sections) (λ j. count_fits t j && unused_zero t j)

-- the cells t keep the table rule
unfoldable pub keeps_rule : ℕ → ℕ → List ℕ → Bool
keeps_rule n m t = form_rule t && ruled (tables_in t) n m
