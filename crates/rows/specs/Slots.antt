-- The slots of the records that are read from a description, by name. Sections.antt has the sections.
-- A keyword's slot -seen counts how often it was there. A name or a text takes two slots: its first byte and, -past, the place past it.
-- A decimal takes three, of which the first is named: 1 below zero, its whole number, its power of ten.
use Rattle.std.specs.Prelude.{ℕ}

-- what a keyword's parameter has where it is not kept: slot 0 is no keyword's
abbrev pub unkept : ℕ
unkept = 0

-- ---- a record that has a name (method, table, layout, object)

-- the name of its block
abbrev pub own_name : ℕ
own_name = 0

abbrev pub own_name_past : ℕ
own_name_past = 1

-- the number of the first record that it holds: a table's first entry, an object's first axis description
abbrev pub first_held : ℕ
first_held = 2

-- the code of its block's word
abbrev pub block_code : ℕ
block_code = 3

-- ---- the file's own record

-- MODULE, MOD_COMMON
abbrev pub module_seen : ℕ
module_seen = 1

abbrev pub mod_common_seen : ℕ
mod_common_seen = 2

-- MOD_COMMON's BYTE_ORDER
abbrev pub common_byte_order_seen : ℕ
common_byte_order_seen = 3

abbrev pub common_byte_order : ℕ
common_byte_order = 4

-- MOD_COMMON's ALIGNMENT_BYTE, ALIGNMENT_WORD, ALIGNMENT_LONG
abbrev pub common_alignment_byte_seen : ℕ
common_alignment_byte_seen = 5

abbrev pub common_alignment_byte : ℕ
common_alignment_byte = 6

abbrev pub common_alignment_word_seen : ℕ
common_alignment_word_seen = 7

abbrev pub common_alignment_word : ℕ
common_alignment_word = 8

abbrev pub common_alignment_long_seen : ℕ
common_alignment_long_seen = 9

abbrev pub common_alignment_long : ℕ
common_alignment_long = 10

-- ---- method: COMPU_METHOD

-- IDENTICAL, LINEAR, RAT_FUNC or TAB_VERB
abbrev pub conversion_type : ℕ
conversion_type = 4

-- COEFFS: b, c, e and f, four decimals (a and d are 0)
abbrev pub coeffs_seen : ℕ
coeffs_seen = 5

abbrev pub coeff_b : ℕ
coeff_b = 6

abbrev pub coeff_c : ℕ
coeff_c = 9

abbrev pub coeff_e : ℕ
coeff_e = 12

abbrev pub coeff_f : ℕ
coeff_f = 15

-- COEFFS_LINEAR: a and b, two decimals
abbrev pub coeffs_linear_seen : ℕ
coeffs_linear_seen = 18

abbrev pub linear_a : ℕ
linear_a = 19

abbrev pub linear_b : ℕ
linear_b = 22

-- COMPU_TAB_REF: the name of a verbal table
abbrev pub compu_tab_ref_seen : ℕ
compu_tab_ref_seen = 25

abbrev pub compu_tab_ref : ℕ
compu_tab_ref = 26

abbrev pub compu_tab_ref_past : ℕ
compu_tab_ref_past = 27

-- ---- table: COMPU_VTAB

-- TAB_VERB
abbrev pub table_type : ℕ
table_type = 4

-- how many pairs it says that it has
abbrev pub pairs_given : ℕ
pairs_given = 5

-- DEFAULT_VALUE: a text
abbrev pub default_value_seen : ℕ
default_value_seen = 6

abbrev pub default_value : ℕ
default_value = 7

abbrev pub default_value_past : ℕ
default_value_past = 8

-- ---- entry: a pair of a COMPU_VTAB, a whole number and a text

-- 1 below zero, and the number's size
abbrev pub entry_sign : ℕ
entry_sign = 0

abbrev pub entry_size : ℕ
entry_size = 1

abbrev pub entry_text : ℕ
entry_text = 2

abbrev pub entry_text_past : ℕ
entry_text_past = 3

-- ---- layout: RECORD_LAYOUT

-- ALIGNMENT_BYTE, ALIGNMENT_WORD, ALIGNMENT_LONG
abbrev pub layout_alignment_byte_seen : ℕ
layout_alignment_byte_seen = 4

abbrev pub layout_alignment_byte : ℕ
layout_alignment_byte = 5

abbrev pub layout_alignment_word_seen : ℕ
layout_alignment_word_seen = 6

abbrev pub layout_alignment_word : ℕ
layout_alignment_word = 7

abbrev pub layout_alignment_long_seen : ℕ
layout_alignment_long_seen = 8

abbrev pub layout_alignment_long : ℕ
layout_alignment_long = 9

-- FNC_VALUES: Position, data type, ROW_DIR or COLUMN_DIR, DIRECT
abbrev pub fnc_values_seen : ℕ
fnc_values_seen = 10

abbrev pub fnc_values_position : ℕ
fnc_values_position = 11

abbrev pub fnc_values_type : ℕ
fnc_values_type = 12

abbrev pub fnc_values_mode : ℕ
fnc_values_mode = 13

abbrev pub fnc_values_addressing : ℕ
fnc_values_addressing = 14

-- AXIS_PTS_X and AXIS_PTS_Y: Position, data type, INDEX_INCR or INDEX_DECR, DIRECT
abbrev pub axis_pts_x_seen : ℕ
axis_pts_x_seen = 15

abbrev pub axis_pts_x_position : ℕ
axis_pts_x_position = 16

abbrev pub axis_pts_x_type : ℕ
axis_pts_x_type = 17

abbrev pub axis_pts_x_order : ℕ
axis_pts_x_order = 18

abbrev pub axis_pts_x_addressing : ℕ
axis_pts_x_addressing = 19

abbrev pub axis_pts_y_seen : ℕ
axis_pts_y_seen = 20

abbrev pub axis_pts_y_position : ℕ
axis_pts_y_position = 21

abbrev pub axis_pts_y_type : ℕ
axis_pts_y_type = 22

abbrev pub axis_pts_y_order : ℕ
axis_pts_y_order = 23

abbrev pub axis_pts_y_addressing : ℕ
axis_pts_y_addressing = 24

-- NO_AXIS_PTS_X and NO_AXIS_PTS_Y: Position, data type
abbrev pub no_axis_pts_x_seen : ℕ
no_axis_pts_x_seen = 25

abbrev pub no_axis_pts_x_position : ℕ
no_axis_pts_x_position = 26

abbrev pub no_axis_pts_x_type : ℕ
no_axis_pts_x_type = 27

abbrev pub no_axis_pts_y_seen : ℕ
no_axis_pts_y_seen = 28

abbrev pub no_axis_pts_y_position : ℕ
no_axis_pts_y_position = 29

abbrev pub no_axis_pts_y_type : ℕ
no_axis_pts_y_type = 30

-- ---- object: AXIS_PTS, CHARACTERISTIC or MEASUREMENT

-- a CHARACTERISTIC's type, a MEASUREMENT's data type
abbrev pub object_type : ℕ
object_type = 4

-- its Address, a MEASUREMENT's by ECU_ADDRESS
abbrev pub object_address : ℕ
object_address = 5

-- the names of its layout, its conversion, its input quantity
abbrev pub object_layout : ℕ
object_layout = 6

abbrev pub object_layout_past : ℕ
object_layout_past = 7

abbrev pub object_conversion : ℕ
object_conversion = 8

abbrev pub object_conversion_past : ℕ
object_conversion_past = 9

abbrev pub object_input_quantity : ℕ
object_input_quantity = 10

abbrev pub object_input_quantity_past : ℕ
object_input_quantity_past = 11

-- an AXIS_PTS's MaxAxisPoints
abbrev pub object_max_points : ℕ
object_max_points = 12

-- LowerLimit and UpperLimit, two decimals
abbrev pub object_lower_limit : ℕ
object_lower_limit = 13

abbrev pub object_upper_limit : ℕ
object_upper_limit = 16

-- BYTE_ORDER
abbrev pub object_byte_order_seen : ℕ
object_byte_order_seen = 19

abbrev pub object_byte_order : ℕ
object_byte_order = 20

-- BIT_MASK
abbrev pub bit_mask_seen : ℕ
bit_mask_seen = 21

abbrev pub bit_mask : ℕ
bit_mask = 22

-- READ_ONLY
abbrev pub object_read_only_seen : ℕ
object_read_only_seen = 23

-- NUMBER: how many values a VAL_BLK has
abbrev pub number_seen : ℕ
number_seen = 24

abbrev pub number_of_values : ℕ
number_of_values = 25

-- AXIS_DESCR, ECU_ADDRESS
abbrev pub axis_descr_seen : ℕ
axis_descr_seen = 26

abbrev pub ecu_address_seen : ℕ
ecu_address_seen = 27

-- ---- axis: AXIS_DESCR

-- STD_AXIS or COM_AXIS
abbrev pub axis_attribute : ℕ
axis_attribute = 1

-- the names of its input quantity and its conversion
abbrev pub axis_input_quantity : ℕ
axis_input_quantity = 2

abbrev pub axis_input_quantity_past : ℕ
axis_input_quantity_past = 3

abbrev pub axis_conversion : ℕ
axis_conversion = 4

abbrev pub axis_conversion_past : ℕ
axis_conversion_past = 5

-- MaxAxisPoints
abbrev pub axis_max_points : ℕ
axis_max_points = 6

-- LowerLimit and UpperLimit, two decimals
abbrev pub axis_lower_limit : ℕ
axis_lower_limit = 7

abbrev pub axis_upper_limit : ℕ
axis_upper_limit = 10

-- AXIS_PTS_REF: the name of an AXIS_PTS
abbrev pub axis_pts_ref_seen : ℕ
axis_pts_ref_seen = 13

abbrev pub axis_pts_ref : ℕ
axis_pts_ref = 14

abbrev pub axis_pts_ref_past : ℕ
axis_pts_ref_past = 15

-- READ_ONLY
abbrev pub axis_read_only_seen : ℕ
axis_read_only_seen = 16
