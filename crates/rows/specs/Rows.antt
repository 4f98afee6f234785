-- The grammar as data, a row to a line: document 000's parameters in their order, for what document 01 takes and skips.
use Rattle.std.specs.Prelude.{ℕ, List, [], ◌∷◌, cond, eqb}
use Rattle.rows.specs.Codes.{FILE, ANY, PROJECT, MODULE, MOD-COMMON, COMPU-METHOD, COMPU-VTAB, RECORD-LAYOUT, AXIS-PTS, CHARACTERISTIC, AXIS-DESCR, MEASUREMENT, COEFFS-LINEAR, COEFFS, COMPU-TAB-REF, AXIS-PTS-REF, NUMBER, ECU-ADDRESS, FNC-VALUES, AXIS-PTS-X, AXIS-PTS-Y, NO-AXIS-PTS-X, NO-AXIS-PTS-Y, BYTE-ORDER, ALIGNMENT-BYTE, ALIGNMENT-WORD, ALIGNMENT-LONG, BIT-MASK, READ-ONLY, DEFAULT-VALUE, FORMAT, DISPLAY-IDENTIFIER, PHYS-UNIT, ASAP2-VERSION, A2ML-VERSION, UBYTE, SLONG, MSB-FIRST, MSB-LAST, ROW-DIR, COLUMN-DIR, INDEX-INCR, INDEX-DECR, DIRECT, VALUE, VAL-BLK, CURVE, MAP, IDENTICAL, LINEAR, RAT-FUNC, TAB-VERB, STD-AXIS, COM-AXIS}
use Rattle.rows.specs.Sections.{file, method, table, entry, layout, object, axis, none}
use Rattle.rows.specs.Slots.{unkept, module_seen, mod_common_seen, common_byte_order_seen, common_byte_order, common_alignment_byte_seen, common_alignment_byte, common_alignment_word_seen, common_alignment_word, common_alignment_long_seen, common_alignment_long, conversion_type, coeffs_seen, coeff_b, coeff_c, coeff_e, coeff_f, coeffs_linear_seen, linear_a, linear_b, compu_tab_ref_seen, compu_tab_ref, table_type, pairs_given, default_value_seen, default_value, entry_text, layout_alignment_byte_seen, layout_alignment_byte, layout_alignment_word_seen, layout_alignment_word, layout_alignment_long_seen, layout_alignment_long, fnc_values_seen, fnc_values_position, fnc_values_type, fnc_values_mode, fnc_values_addressing, axis_pts_x_seen, axis_pts_x_position, axis_pts_x_type, axis_pts_x_order, axis_pts_x_addressing, axis_pts_y_seen, axis_pts_y_position, axis_pts_y_type, axis_pts_y_order, axis_pts_y_addressing, no_axis_pts_x_seen, no_axis_pts_x_position, no_axis_pts_x_type, no_axis_pts_y_seen, no_axis_pts_y_position, no_axis_pts_y_type, object_type, object_address, object_layout, object_conversion, object_input_quantity, object_max_points, object_lower_limit, object_upper_limit, object_byte_order_seen, object_byte_order, bit_mask_seen, bit_mask, object_read_only_seen, number_seen, number_of_values, axis_descr_seen, ecu_address_seen, axis_attribute, axis_input_quantity, axis_conversion, axis_max_points, axis_lower_limit, axis_upper_limit, axis_pts_ref_seen, axis_pts_ref, axis_read_only_seen}
use Rattle.rows.specs.Row.{opening, Param, name, string, whole, decimal, choice, new, points, alignment, nought, upper, pairs, number, text, Row, block, single, keyword, under, passed, refusing, Need, need}

-- the greatest numbers of document 000's types
abbrev pub uint : ℕ
uint = 65535

abbrev pub ulong : ℕ
ulong = 4294967295

abbrev pub uint64 : ℕ
uint64 = 18446744073709551615

-- a data type
abbrev pub datatype : ℕ → Param
datatype s = choice s UBYTE SLONG

unfoldable pub rows : List Row
rows =
    block FILE PROJECT file (name unkept ∷ string unkept ∷ [])
    ∷ single PROJECT MODULE module_seen (name unkept ∷ string unkept ∷ [])
    ∷ single MODULE MOD-COMMON mod_common_seen (string unkept ∷ [])
    ∷ keyword MOD-COMMON BYTE-ORDER file common_byte_order_seen (choice common_byte_order MSB-FIRST MSB-LAST ∷ [])
    ∷ keyword MOD-COMMON ALIGNMENT-BYTE file common_alignment_byte_seen (alignment common_alignment_byte ∷ [])
    ∷ keyword MOD-COMMON ALIGNMENT-WORD file common_alignment_word_seen (alignment common_alignment_word ∷ [])
    ∷ keyword MOD-COMMON ALIGNMENT-LONG file common_alignment_long_seen (alignment common_alignment_long ∷ [])
    ∷ block MODULE COMPU-METHOD method (new none ∷ string unkept ∷ choice conversion_type IDENTICAL TAB-VERB ∷ string unkept ∷ string unkept ∷ [])
    ∷ under COMPU-METHOD COEFFS method coeffs_seen conversion_type RAT-FUNC (nought ∷ decimal coeff_b ∷ decimal coeff_c ∷ nought ∷ decimal coeff_e ∷ decimal coeff_f ∷ [])
    ∷ under COMPU-METHOD COEFFS-LINEAR method coeffs_linear_seen conversion_type LINEAR (decimal linear_a ∷ decimal linear_b ∷ [])
    ∷ under COMPU-METHOD COMPU-TAB-REF method compu_tab_ref_seen conversion_type TAB-VERB (name compu_tab_ref ∷ [])
    ∷ block MODULE COMPU-VTAB table (new entry ∷ string unkept ∷ choice table_type TAB-VERB TAB-VERB ∷ pairs pairs_given ∷ number ∷ text entry_text ∷ [])
    ∷ keyword COMPU-VTAB DEFAULT-VALUE table default_value_seen (string default_value ∷ [])
    ∷ block MODULE RECORD-LAYOUT layout (new none ∷ [])
    ∷ keyword RECORD-LAYOUT ALIGNMENT-BYTE layout layout_alignment_byte_seen (alignment layout_alignment_byte ∷ [])
    ∷ keyword RECORD-LAYOUT ALIGNMENT-WORD layout layout_alignment_word_seen (alignment layout_alignment_word ∷ [])
    ∷ keyword RECORD-LAYOUT ALIGNMENT-LONG layout layout_alignment_long_seen (alignment layout_alignment_long ∷ [])
    ∷ keyword RECORD-LAYOUT FNC-VALUES layout fnc_values_seen (whole fnc_values_position 0 uint ∷ datatype fnc_values_type ∷ choice fnc_values_mode ROW-DIR COLUMN-DIR ∷ choice fnc_values_addressing DIRECT DIRECT ∷ [])
    ∷ keyword RECORD-LAYOUT AXIS-PTS-X layout axis_pts_x_seen (whole axis_pts_x_position 0 uint ∷ datatype axis_pts_x_type ∷ choice axis_pts_x_order INDEX-INCR INDEX-DECR ∷ choice axis_pts_x_addressing DIRECT DIRECT ∷ [])
    ∷ keyword RECORD-LAYOUT AXIS-PTS-Y layout axis_pts_y_seen (whole axis_pts_y_position 0 uint ∷ datatype axis_pts_y_type ∷ choice axis_pts_y_order INDEX-INCR INDEX-DECR ∷ choice axis_pts_y_addressing DIRECT DIRECT ∷ [])
    ∷ keyword RECORD-LAYOUT NO-AXIS-PTS-X layout no_axis_pts_x_seen (whole no_axis_pts_x_position 0 uint ∷ datatype no_axis_pts_x_type ∷ [])
    ∷ keyword RECORD-LAYOUT NO-AXIS-PTS-Y layout no_axis_pts_y_seen (whole no_axis_pts_y_position 0 uint ∷ datatype no_axis_pts_y_type ∷ [])
    ∷ block MODULE AXIS-PTS object (new axis ∷ string unkept ∷ whole object_address 0 ulong ∷ name object_input_quantity ∷ name object_layout ∷ decimal unkept ∷ name object_conversion ∷ points object_max_points ∷ decimal object_lower_limit ∷ upper object_upper_limit ∷ [])
    ∷ keyword AXIS-PTS BYTE-ORDER object object_byte_order_seen (choice object_byte_order MSB-FIRST MSB-LAST ∷ [])
    ∷ keyword AXIS-PTS READ-ONLY object object_read_only_seen []
    ∷ block MODULE CHARACTERISTIC object (new axis ∷ string unkept ∷ choice object_type VALUE MAP ∷ whole object_address 0 ulong ∷ name object_layout ∷ decimal unkept ∷ name object_conversion ∷ decimal object_lower_limit ∷ upper object_upper_limit ∷ [])
    ∷ keyword CHARACTERISTIC BYTE-ORDER object object_byte_order_seen (choice object_byte_order MSB-FIRST MSB-LAST ∷ [])
    ∷ keyword CHARACTERISTIC BIT-MASK object bit_mask_seen (whole bit_mask 0 uint64 ∷ [])
    ∷ keyword CHARACTERISTIC READ-ONLY object object_read_only_seen []
    ∷ under CHARACTERISTIC NUMBER object number_seen object_type VAL-BLK (whole number_of_values 1 uint ∷ [])
    ∷ record { parent = CHARACTERISTIC; word = AXIS-DESCR; opens = opening; sec = object; once = axis_descr_seen; when = 0; low = 0; high = 0; adds = axis; params = choice axis_attribute STD-AXIS COM-AXIS ∷ name axis_input_quantity ∷ name axis_conversion ∷ points axis_max_points ∷ decimal axis_lower_limit ∷ upper axis_upper_limit ∷ [] }
    ∷ under AXIS-DESCR AXIS-PTS-REF axis axis_pts_ref_seen axis_attribute COM-AXIS (name axis_pts_ref ∷ [])
    ∷ keyword AXIS-DESCR READ-ONLY axis axis_read_only_seen []
    ∷ refusing AXIS-DESCR BYTE-ORDER
    ∷ block MODULE MEASUREMENT object (new axis ∷ string unkept ∷ datatype object_type ∷ name object_conversion ∷ whole unkept 0 uint ∷ decimal unkept ∷ decimal object_lower_limit ∷ upper object_upper_limit ∷ [])
    ∷ keyword MEASUREMENT BYTE-ORDER object object_byte_order_seen (choice object_byte_order MSB-FIRST MSB-LAST ∷ [])
    ∷ keyword MEASUREMENT BIT-MASK object bit_mask_seen (whole bit_mask 0 uint64 ∷ [])
    ∷ keyword MEASUREMENT ECU-ADDRESS object ecu_address_seen (whole object_address 0 ulong ∷ [])
    ∷ passed ANY FORMAT (string unkept ∷ [])
    ∷ passed ANY DISPLAY-IDENTIFIER (name unkept ∷ [])
    ∷ passed ANY PHYS-UNIT (string unkept ∷ [])
    ∷ passed ANY ASAP2-VERSION (whole unkept 0 uint ∷ whole unkept 0 uint ∷ [])
    ∷ passed ANY A2ML-VERSION (whole unkept 0 uint ∷ whole unkept 0 uint ∷ [])
    ∷ passed FILE ASAP2-VERSION (whole unkept 0 uint ∷ whole unkept 0 uint ∷ [])
    ∷ passed FILE A2ML-VERSION (whole unkept 0 uint ∷ whole unkept 0 uint ∷ [])
    ∷ []

-- "parameter or needed keyword missing": what each block needs by its end
unfoldable pub needed : List Need
needed =
    record { block = PROJECT; sec = file; when = 0; low = 0; high = 0; slot = module_seen; least = 1 }
    ∷ need COMPU-METHOD method conversion_type RAT-FUNC coeffs_seen 1
    ∷ need COMPU-METHOD method conversion_type LINEAR coeffs_linear_seen 1
    ∷ need COMPU-METHOD method conversion_type TAB-VERB compu_tab_ref_seen 1
    ∷ need CHARACTERISTIC object object_type VAL-BLK number_seen 1
    ∷ need CHARACTERISTIC object object_type CURVE axis_descr_seen 1
    ∷ need CHARACTERISTIC object object_type MAP axis_descr_seen 2
    ∷ need AXIS-DESCR axis axis_attribute COM-AXIS axis_pts_ref_seen 1
    ∷ record { block = MEASUREMENT; sec = object; when = 0; low = 0; high = 0; slot = ecu_address_seen; least = 1 }
    ∷ []

-- a block that adds a record as it opens keeps its parameters there
abbrev pub keeps : Row → ℕ
keeps r = cond (eqb r.adds none) r.sec r.adds
