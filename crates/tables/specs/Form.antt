-- The form of the lent tables: sections of records of numbers, one after the other in the cells of one slice (records' `encode`).
-- A whole number takes two cells: 1 below zero, and its size. A decimal takes three: 1 below zero, its whole number, its power of ten.
use Rattle.std.specs.Prelude.{ℕ, suc, ◌+◌, min, List, [], ◌∷◌, Bool, not, eqb, ℤ}
use Rattle.number.specs.Decimal.{Scaled}
use Rattle.number.specs.Most.{most_objects, most_methods, most_tables, most_entries, most_groups, most_points}
use Rattle.number.specs.Signed.{signed_of}
use Rattle.convert.specs.declared.method.Coefficients.{Coefficients}
use Rattle.records.specs.Records.{Sec, count, slot}
use Rattle.records.specs.Cells.{section_in, count_in, slot_in}

abbrev pub head_section : ℕ
head_section = 0

abbrev pub object_section : ℕ
object_section = 1

abbrev pub group_section : ℕ
group_section = 2

abbrev pub method_section : ℕ
method_section = 3

abbrev pub table_section : ℕ
table_section = 4

abbrev pub entry_section : ℕ
entry_section = 5

-- "512 objects, 128 methods, 128 verbal tables ..; 1,024 verbal entries in all tables"; an object has three parts
unfoldable pub table_sections : List Sec
table_sections =
    record { width = 3; most = 1 }
    ∷ record { width = 3; most = most_objects }
    ∷ record { width = 19; most = most_groups }
    ∷ record { width = 10; most = most_methods }
    ∷ record { width = 4; most = most_tables }
    ∷ record { width = 4; most = most_entries }
    ∷ []

-- what can be asked of tables: how many records a section has, and number k of record i of section j
pub record Tables : Type 0 where
  pub counts : ℕ → ℕ
  pub slots : ℕ → ℕ → ℕ → ℕ

abbrev pub tables_of : List (List (List ℕ)) → Tables
tables_of d = record { counts = count d; slots = slot d }

abbrev pub tables_in : List ℕ → Tables
tables_in t = record { counts = λ j. count_in t (section_in table_sections j); slots = λ j. slot_in t (section_in table_sections j) }

-- ---- the cells of each section's records, by name; of the cells that a number takes, the first

-- head: edition, size mark (0), how many elements all objects have
abbrev pub edition_cell : ℕ
edition_cell = 0

abbrev pub size_mark_cell : ℕ
size_mark_cell = 1

abbrev pub total_cell : ℕ
total_cell = 2

-- object: its name's first byte and the one past it; what it is, AXIS_PTS, MEASUREMENT, VALUE, VAL_BLK, CURVE or MAP, by the word's code
abbrev pub name_cell : ℕ
name_cell = 0

abbrev pub name_past_cell : ℕ
name_past_cell = 1

abbrev pub what_cell : ℕ
what_cell = 2

-- group: the parts of object i are the groups 3·i (x points), 3·i + 1 (y points) and 3·i + 2 (values); a part that it does not store has zeros

-- data type; byte order (1 MSB_FIRST); the first byte's place in the image
abbrev pub kind_cell : ℕ
kind_cell = 0

abbrev pub order_cell : ℕ
order_cell = 1

abbrev pub place_cell : ℕ
place_cell = 2

-- points in x and in y; room in x and in y
abbrev pub x_cell : ℕ
x_cell = 3

abbrev pub y_cell : ℕ
y_cell = 4

abbrev pub wide_cell : ℕ
wide_cell = 5

abbrev pub high_cell : ℕ
high_cell = 6

-- walk: 0 as listed, 1 the last point first, 2 y fastest
abbrev pub walk_cell : ℕ
walk_cell = 7

-- its method's number and one more (0: NO_COMPU_METHOD); mask (0: none); writing is forbidden (1)
abbrev pub method_cell : ℕ
method_cell = 8

abbrev pub mask_cell : ℕ
mask_cell = 9

abbrev pub forbidden_cell : ℕ
forbidden_cell = 10

-- lower and upper limit, two decimals
abbrev pub lower_cell : ℕ
lower_cell = 11

abbrev pub upper_cell : ℕ
upper_cell = 14

-- the stored count's data type (0: none) and place
abbrev pub counter_cell : ℕ
counter_cell = 17

abbrev pub counter_place_cell : ℕ
counter_place_cell = 18

-- how many cells a group has
abbrev pub group_width : ℕ
group_width = 19

-- method: conversion; b, c, e and f, four whole numbers; its verbal table's number and one more (0: none)
abbrev pub conversion_cell : ℕ
conversion_cell = 0

abbrev pub b_cell : ℕ
b_cell = 1

abbrev pub c_cell : ℕ
c_cell = 3

abbrev pub e_cell : ℕ
e_cell = 5

abbrev pub f_cell : ℕ
f_cell = 7

abbrev pub table_cell : ℕ
table_cell = 9

-- table: its first entry, how many it has; DEFAULT_VALUE's first byte and the one past it (0, 0: none)
abbrev pub first_entry_cell : ℕ
first_entry_cell = 0

abbrev pub entries_cell : ℕ
entries_cell = 1

abbrev pub default_cell : ℕ
default_cell = 2

abbrev pub default_past_cell : ℕ
default_past_cell = 3

-- entry: its number, 1 below zero and the size; the text's first byte and the one past it
abbrev pub sign_cell : ℕ
sign_cell = 0

abbrev pub size_cell : ℕ
size_cell = 1

abbrev pub text_cell : ℕ
text_cell = 2

abbrev pub text_past_cell : ℕ
text_past_cell = 3

-- ---- the fields by name. A number past every capacity reads as the first past it, so that nothing grows too large.

-- one past the most points; one past "1 MiB of image"; one past "10^9"
abbrev pub past_points : ℕ
past_points = suc most_points

abbrev pub past_image : ℕ
past_image = 1048577

abbrev pub past_coefficient : ℕ
past_coefficient = 1000000001

module _ (T : Tables) where
  abbrev pub edition : ℕ
  edition = T.slots head_section 0 edition_cell

  abbrev pub total : ℕ
  total = T.slots head_section 0 total_cell

  module _ (g : ℕ) where
    abbrev pub kind : ℕ
    kind = T.slots group_section g kind_cell

    abbrev pub first : Bool
    first = eqb (T.slots group_section g order_cell) 1

    abbrev pub place : ℕ
    place = min (T.slots group_section g place_cell) past_image

    abbrev pub x : ℕ
    x = min (T.slots group_section g x_cell) past_points

    abbrev pub y : ℕ
    y = min (T.slots group_section g y_cell) past_points

    abbrev pub wide : ℕ
    wide = min (T.slots group_section g wide_cell) past_points

    abbrev pub high : ℕ
    high = min (T.slots group_section g high_cell) past_points

    abbrev pub walk : ℕ
    walk = T.slots group_section g walk_cell

    abbrev pub method_of : ℕ
    method_of = T.slots group_section g method_cell

    abbrev pub mask : ℕ
    mask = T.slots group_section g mask_cell

    abbrev pub forbidden : Bool
    forbidden = not (eqb (T.slots group_section g forbidden_cell) 0)

    abbrev pub counter : ℕ
    counter = T.slots group_section g counter_cell

    abbrev pub counter_place : ℕ
    counter_place = min (T.slots group_section g counter_place_cell) past_image

  -- the decimal in three cells of group g from k on
  abbrev pub limit : ℕ → ℕ → Scaled
  limit g k = record { negative = eqb (T.slots group_section g k) 1; whole = T.slots group_section g (k + 1); tens = min (T.slots group_section g (k + 2)) 7 }

  -- the whole number in two cells of method m from k on
  abbrev pub coefficient : ℕ → ℕ → ℤ
  coefficient m k = signed_of (eqb (T.slots method_section m k) 1) (min (T.slots method_section m (k + 1)) past_coefficient)

  abbrev pub coefficients : ℕ → Coefficients
  coefficients m = record { b = coefficient m b_cell; c = coefficient m c_cell; e = coefficient m e_cell; f = coefficient m f_cell }
