-- Document 01's examples of place, computed: P10, the image's last byte, and one of each refusal.
use Prim.Native.Nat.{ℕ}
use mathlib.Core.Path.{◌≡◌, refl}
use mathlib.Core.List.{[], ◌∷◌}
use mathlib.Core.Bool.{Bool, true, false}
use Rattle.number.specs.Answer.{given, refused}
use Rattle.cell.specs.Kind.{UBYTE, SBYTE, UWORD, shapes, shape_of}
use Rattle.cell.specs.Bytes.{number}
use Rattle.cell.specs.Raw.{raw_of, raw_at}
use Rattle.place.specs.Align.{word_for, alignment, next_from, aligned}
use Rattle.place.specs.Inside.{inside}
use Rattle.place.specs.Order.{insert, in_order, parts}
use Rattle.place.specs.Rules.{both, apart, apart_from, all_apart, distinct, comes_before, counted, matching, sound_layout}
use Rattle.place.specs.Walk.{start_of, count_stored, count_at, points_of, within, place_one, all_placed, start, placement}
use Rattle.place.specs.Judge.{bytes_of, elements_stored, all_inside, weighed, judged_object}
use Rattle.place.specs.declared.order.Entry.{Entry}
use Rattle.place.specs.declared.order.Layout.{Layout}
use Rattle.place.specs.declared.rules.Axis.{Axis}
use Rattle.place.specs.declared.rules.Need.{Need}
use Rattle.place.specs.declared.walk.Ground.{Ground}

abbrev entry : ℕ → ℕ → Entry
entry position kind = record { present = true; position = position; kind = kind }

abbrev none : Entry
none = record { present = false; position = 0; kind = 0 }

-- the CURVE of P10, with its count of a data type and at a position
abbrev curve : ℕ → ℕ → Layout
curve kind position = record { values = entry 3 UBYTE; x = entry 2 UWORD; y = none; nx = entry position kind; ny = none }

abbrev axis : Bool → ℕ → ℕ → Axis
axis stored most points = record { stored = stored; most = most; points = points }

abbrev need : Need
need = record { values = true; x = axis true 8 0; y = axis false 1 1 }

abbrev ground : Ground
ground = record { address = 0x1001; base = 0x1000; first = false; aligns = record { byte = 0; word = 0; long = 0 } }

-- "P10 CURVE at 0x1001, UBYTE count 3, UWORD axis, UBYTE values: axis 0x1002 to 0x1007, values 0x1008 to 0x100A."
-- The image's last byte is 0x100A: "An object ending on the image's last byte passes"
pub p10 : judged_object (0 ∷ 3 ∷ 0 ∷ 0 ∷ 0 ∷ 0 ∷ 0 ∷ 0 ∷ 0 ∷ 0 ∷ 0 ∷ []) ground need (curve UBYTE 1) 0
    ≡ given (record { places = record { values = 0x1008; x = 0x1002; y = 0; nx = 0x1001; ny = 0; cx = 3; cy = 1 }; total = 6 })
unfolding judged_object weighed elements_stored all_inside bytes_of inside placement sound_layout matching distinct all_apart apart_from apart both counted comes_before in_order insert parts all_placed place_one start points_of within start_of alignment word_for aligned next_from shape_of shapes count_at count_stored raw_at raw_of number
p10 = refl

-- "one byte on: 12"
pub byte-on : judged_object (0 ∷ 3 ∷ 0 ∷ 0 ∷ 0 ∷ 0 ∷ 0 ∷ 0 ∷ 0 ∷ 0 ∷ []) ground need (curve UBYTE 1) 0 ≡ refused 12
unfolding judged_object weighed elements_stored all_inside bytes_of inside placement sound_layout matching distinct all_apart apart_from apart both counted comes_before in_order insert parts all_placed place_one start points_of within start_of alignment word_for aligned next_from shape_of shapes count_at count_stored raw_at raw_of number
byte-on = refl

-- 8 comes before the same object's 12
pub too_many : judged_object (0 ∷ 3 ∷ []) ground need (curve UBYTE 1) 4091 ≡ refused 8
unfolding judged_object weighed elements_stored placement sound_layout matching distinct all_apart apart_from apart both counted comes_before in_order insert parts all_placed place_one start points_of within start_of alignment word_for aligned next_from shape_of shapes inside count_at count_stored raw_at raw_of number
too_many = refl

-- a count part after the values
pub late : judged_object (0 ∷ 3 ∷ []) ground need (curve UBYTE 4) 0 ≡ refused 11
unfolding judged_object placement sound_layout matching distinct all_apart apart_from apart both counted comes_before
late = refl

-- equal positions
pub equal : judged_object (0 ∷ 3 ∷ []) ground need (curve UBYTE 2) 0 ≡ refused 11
unfolding judged_object placement sound_layout matching distinct all_apart apart_from apart both counted comes_before
equal = refl

-- a count of 9 where the maximum is 8; a signed count of -1; a count outside the image
pub large : judged_object (0 ∷ 9 ∷ []) ground need (curve UBYTE 1) 0 ≡ refused 13
unfolding judged_object placement sound_layout matching distinct all_apart apart_from apart both counted comes_before in_order insert parts all_placed place_one start points_of within start_of shape_of shapes inside count_at count_stored raw_at raw_of number
large = refl

pub negative : judged_object (0 ∷ 0xFF ∷ []) ground need (curve SBYTE 1) 0 ≡ refused 13
unfolding judged_object placement sound_layout matching distinct all_apart apart_from apart both counted comes_before in_order insert parts all_placed place_one start points_of within start_of shape_of shapes inside count_at count_stored raw_at raw_of number
negative = refl

pub outside : judged_object (0 ∷ []) ground need (curve UBYTE 1) 0 ≡ refused 12
unfolding judged_object placement sound_layout matching distinct all_apart apart_from apart both counted comes_before in_order insert parts all_placed place_one start points_of within start_of shape_of shapes inside count_at
outside = refl

-- a COM_AXIS of 9 points where the AXIS_DESCR's own maximum is 8
pub above-own : judged_object [] ground (record { values = true; x = axis false 8 9; y = axis false 1 1 }) (record { values = entry 1 UBYTE; x = none; y = none; nx = none; ny = none }) 0 ≡ refused 13
unfolding judged_object placement sound_layout matching distinct all_apart apart_from apart both counted comes_before within
above-own = refl
