-- Document 000's words and what document 01 does with each: a row to a line, in the order of the alphabet.
-- Five of them stand in document 000's index or hierarchy tables alone, and count as listed: AXIS_RESCALE_4, _5, _Y, _Z and VAR_SEPERATOR.
use Rattle.std.specs.Prelude.{List, [], ◌∷◌}
use Rattle.words.specs.Kind.{taken_block, taken_plain, taken_choice, skipped_block, skipped_plain, listed_only}
use Rattle.words.specs.Row.{Row, word}

unfoldable pub word_rows : List Row
word_rows =
    word "A2ML" (skipped_block 29)
    ∷ word "A2ML_VERSION" (skipped_plain 41)
    ∷ word "ABSOLUTE" listed_only
    ∷ word "ADDR_EPK" listed_only
    ∷ word "ALIGNMENT_BYTE" (taken_plain 23)
    ∷ word "ALIGNMENT_FLOAT32_IEEE" listed_only
    ∷ word "ALIGNMENT_FLOAT64_IEEE" listed_only
    ∷ word "ALIGNMENT_INT64" listed_only
    ∷ word "ALIGNMENT_LONG" (taken_plain 25)
    ∷ word "ALIGNMENT_WORD" (taken_plain 24)
    ∷ word "ALTERNATE_CURVES" listed_only
    ∷ word "ALTERNATE_WITH_X" listed_only
    ∷ word "ALTERNATE_WITH_Y" listed_only
    ∷ word "ANNOTATION" (skipped_block 31)
    ∷ word "ANNOTATION_LABEL" listed_only
    ∷ word "ANNOTATION_ORIGIN" listed_only
    ∷ word "ANNOTATION_TEXT" listed_only
    ∷ word "ARRAY_SIZE" listed_only
    ∷ word "ASAP2_VERSION" (skipped_plain 40)
    ∷ word "ASCII" listed_only
    ∷ word "AXIS_DESCR" (taken_block 9)
    ∷ word "AXIS_PTS" (taken_block 7)
    ∷ word "AXIS_PTS_4" listed_only
    ∷ word "AXIS_PTS_5" listed_only
    ∷ word "AXIS_PTS_REF" (taken_plain 14)
    ∷ word "AXIS_PTS_X" (taken_plain 18)
    ∷ word "AXIS_PTS_Y" (taken_plain 19)
    ∷ word "AXIS_PTS_Z" listed_only
    ∷ word "AXIS_RESCALE_4" listed_only
    ∷ word "AXIS_RESCALE_5" listed_only
    ∷ word "AXIS_RESCALE_X" listed_only
    ∷ word "AXIS_RESCALE_Y" listed_only
    ∷ word "AXIS_RESCALE_Z" listed_only
    ∷ word "A_INT64" listed_only
    ∷ word "A_UINT64" listed_only
    ∷ word "BIG_ENDIAN" listed_only
    ∷ word "BIT_MASK" (taken_plain 26)
    ∷ word "BIT_OPERATION" listed_only
    ∷ word "BYTE" listed_only
    ∷ word "BYTE_ORDER" (taken_plain 22)
    ∷ word "CALIBRATION" listed_only
    ∷ word "CALIBRATION_ACCESS" listed_only
    ∷ word "CALIBRATION_HANDLE" listed_only
    ∷ word "CALIBRATION_HANDLE_TEXT" listed_only
    ∷ word "CALIBRATION_METHOD" listed_only
    ∷ word "CALIBRATION_VARIABLES" listed_only
    ∷ word "CHARACTERISTIC" (taken_block 8)
    ∷ word "CODE" listed_only
    ∷ word "COEFFS" (taken_plain 12)
    ∷ word "COEFFS_LINEAR" (taken_plain 11)
    ∷ word "COLUMN_DIR" (taken_choice 11)
    ∷ word "COMPARISON_QUANTITY" listed_only
    ∷ word "COMPU_METHOD" (taken_block 4)
    ∷ word "COMPU_TAB" listed_only
    ∷ word "COMPU_TAB_REF" (taken_plain 13)
    ∷ word "COMPU_VTAB" (taken_block 5)
    ∷ word "COMPU_VTAB_RANGE" listed_only
    ∷ word "COM_AXIS" (taken_choice 24)
    ∷ word "CPU_TYPE" listed_only
    ∷ word "CUBE_4" listed_only
    ∷ word "CUBE_5" listed_only
    ∷ word "CUBOID" listed_only
    ∷ word "CURVE" (taken_choice 17)
    ∷ word "CURVE_AXIS" listed_only
    ∷ word "CURVE_AXIS_REF" listed_only
    ∷ word "CUSTOMER" listed_only
    ∷ word "CUSTOMER_NO" listed_only
    ∷ word "DATA" listed_only
    ∷ word "DATA_SIZE" listed_only
    ∷ word "DEFAULT_VALUE" (taken_plain 28)
    ∷ word "DEFAULT_VALUE_NUMERIC" listed_only
    ∷ word "DEF_CHARACTERISTIC" listed_only
    ∷ word "DEPENDENT_CHARACTERISTIC" listed_only
    ∷ word "DEPOSIT" listed_only
    ∷ word "DERIVED" listed_only
    ∷ word "DIFFERENCE" listed_only
    ∷ word "DIRECT" (taken_choice 14)
    ∷ word "DISCRETE" listed_only
    ∷ word "DISPLAY_IDENTIFIER" (skipped_plain 38)
    ∷ word "DIST_OP_4" listed_only
    ∷ word "DIST_OP_5" listed_only
    ∷ word "DIST_OP_X" listed_only
    ∷ word "DIST_OP_Y" listed_only
    ∷ word "DIST_OP_Z" listed_only
    ∷ word "ECU" listed_only
    ∷ word "ECU_ADDRESS" (taken_plain 16)
    ∷ word "ECU_ADDRESS_EXTENSION" listed_only
    ∷ word "ECU_CALIBRATION_OFFSET" listed_only
    ∷ word "EEPROM" listed_only
    ∷ word "EPK" listed_only
    ∷ word "EPROM" listed_only
    ∷ word "ERROR_MASK" listed_only
    ∷ word "EXCLUDE_FROM_FLASH" listed_only
    ∷ word "EXTENDED_LIMITS" listed_only
    ∷ word "EXTENDED_SI" listed_only
    ∷ word "EXTERN" listed_only
    ∷ word "FIX_AXIS" listed_only
    ∷ word "FIX_AXIS_PAR" listed_only
    ∷ word "FIX_AXIS_PAR_DIST" listed_only
    ∷ word "FIX_AXIS_PAR_LIST" listed_only
    ∷ word "FIX_NO_AXIS_PTS_4" listed_only
    ∷ word "FIX_NO_AXIS_PTS_5" listed_only
    ∷ word "FIX_NO_AXIS_PTS_X" listed_only
    ∷ word "FIX_NO_AXIS_PTS_Y" listed_only
    ∷ word "FIX_NO_AXIS_PTS_Z" listed_only
    ∷ word "FLASH" listed_only
    ∷ word "FLOAT32_IEEE" listed_only
    ∷ word "FLOAT64_IEEE" listed_only
    ∷ word "FNC_VALUES" (taken_plain 17)
    ∷ word "FORM" listed_only
    ∷ word "FORMAT" (skipped_plain 37)
    ∷ word "FORMULA" listed_only
    ∷ word "FORMULA_INV" listed_only
    ∷ word "FRAME" listed_only
    ∷ word "FRAME_MEASUREMENT" listed_only
    ∷ word "FUNCTION" (skipped_block 33)
    ∷ word "FUNCTION_LIST" (skipped_block 34)
    ∷ word "FUNCTION_VERSION" listed_only
    ∷ word "GROUP" (skipped_block 32)
    ∷ word "GUARD_RAILS" listed_only
    ∷ word "HEADER" (skipped_block 36)
    ∷ word "IDENTICAL" (taken_choice 19)
    ∷ word "IDENTIFICATION" listed_only
    ∷ word "IF_DATA" (skipped_block 30)
    ∷ word "INDEX_DECR" (taken_choice 13)
    ∷ word "INDEX_INCR" (taken_choice 12)
    ∷ word "INTERN" listed_only
    ∷ word "IN_MEASUREMENT" listed_only
    ∷ word "LAYOUT" listed_only
    ∷ word "LEFT_SHIFT" listed_only
    ∷ word "LINEAR" (taken_choice 20)
    ∷ word "LITTLE_ENDIAN" listed_only
    ∷ word "LOC_MEASUREMENT" listed_only
    ∷ word "LONG" listed_only
    ∷ word "MAP" (taken_choice 18)
    ∷ word "MAP_LIST" listed_only
    ∷ word "MATRIX_DIM" listed_only
    ∷ word "MAX_GRAD" listed_only
    ∷ word "MAX_REFRESH" listed_only
    ∷ word "MEASUREMENT" (taken_block 10)
    ∷ word "MEMORY_LAYOUT" listed_only
    ∷ word "MEMORY_SEGMENT" listed_only
    ∷ word "MODULE" (taken_block 2)
    ∷ word "MOD_COMMON" (taken_block 3)
    ∷ word "MOD_PAR" (skipped_block 35)
    ∷ word "MONOTONOUS" listed_only
    ∷ word "MONOTONY" listed_only
    ∷ word "MON_DECREASE" listed_only
    ∷ word "MON_INCREASE" listed_only
    ∷ word "MSB_FIRST" (taken_choice 8)
    ∷ word "MSB_LAST" (taken_choice 9)
    ∷ word "NOT_IN_MCD_SYSTEM" listed_only
    ∷ word "NOT_MON" listed_only
    ∷ word "NO_AXIS_PTS_4" listed_only
    ∷ word "NO_AXIS_PTS_5" listed_only
    ∷ word "NO_AXIS_PTS_X" (taken_plain 20)
    ∷ word "NO_AXIS_PTS_Y" (taken_plain 21)
    ∷ word "NO_AXIS_PTS_Z" listed_only
    ∷ word "NO_CALIBRATION" listed_only
    ∷ word "NO_OF_INTERFACES" listed_only
    ∷ word "NO_RESCALE_X" listed_only
    ∷ word "NUMBER" (taken_plain 15)
    ∷ word "NUMERIC" listed_only
    ∷ word "OFFLINE_CALIBRATION" listed_only
    ∷ word "OFFLINE_DATA" listed_only
    ∷ word "OFFSET_4" listed_only
    ∷ word "OFFSET_5" listed_only
    ∷ word "OFFSET_X" listed_only
    ∷ word "OFFSET_Y" listed_only
    ∷ word "OFFSET_Z" listed_only
    ∷ word "OUT_MEASUREMENT" listed_only
    ∷ word "PBYTE" listed_only
    ∷ word "PHONE_NO" listed_only
    ∷ word "PHYS_UNIT" (skipped_plain 39)
    ∷ word "PLONG" listed_only
    ∷ word "PRG_CODE" listed_only
    ∷ word "PRG_DATA" listed_only
    ∷ word "PRG_RESERVED" listed_only
    ∷ word "PROJECT" (taken_block 1)
    ∷ word "PROJECT_NO" listed_only
    ∷ word "PWORD" listed_only
    ∷ word "RAM" listed_only
    ∷ word "RAT_FUNC" (taken_choice 21)
    ∷ word "READ_ONLY" (taken_plain 27)
    ∷ word "READ_WRITE" listed_only
    ∷ word "RECORD_LAYOUT" (taken_block 6)
    ∷ word "REF_CHARACTERISTIC" listed_only
    ∷ word "REF_GROUP" listed_only
    ∷ word "REF_MEASUREMENT" listed_only
    ∷ word "REF_MEMORY_SEGMENT" listed_only
    ∷ word "REF_UNIT" listed_only
    ∷ word "REGISTER" listed_only
    ∷ word "RESERVED" listed_only
    ∷ word "RES_AXIS" listed_only
    ∷ word "RIGHT_SHIFT" listed_only
    ∷ word "RIP_ADDR_4" listed_only
    ∷ word "RIP_ADDR_5" listed_only
    ∷ word "RIP_ADDR_W" listed_only
    ∷ word "RIP_ADDR_X" listed_only
    ∷ word "RIP_ADDR_Y" listed_only
    ∷ word "RIP_ADDR_Z" listed_only
    ∷ word "ROM" listed_only
    ∷ word "ROOT" listed_only
    ∷ word "ROW_DIR" (taken_choice 10)
    ∷ word "SBYTE" (taken_choice 2)
    ∷ word "SERAM" listed_only
    ∷ word "SHIFT_OP_4" listed_only
    ∷ word "SHIFT_OP_5" listed_only
    ∷ word "SHIFT_OP_X" listed_only
    ∷ word "SHIFT_OP_Y" listed_only
    ∷ word "SHIFT_OP_Z" listed_only
    ∷ word "SIGN_EXTEND" listed_only
    ∷ word "SI_EXPONENTS" listed_only
    ∷ word "SLONG" (taken_choice 6)
    ∷ word "SRC_ADDR_4" listed_only
    ∷ word "SRC_ADDR_5" listed_only
    ∷ word "SRC_ADDR_X" listed_only
    ∷ word "SRC_ADDR_Y" listed_only
    ∷ word "SRC_ADDR_Z" listed_only
    ∷ word "STATIC_RECORD_LAYOUT" listed_only
    ∷ word "STATUS_STRING_REF" listed_only
    ∷ word "STD_AXIS" (taken_choice 23)
    ∷ word "STEP_SIZE" listed_only
    ∷ word "STRICT_DECREASE" listed_only
    ∷ word "STRICT_INCREASE" listed_only
    ∷ word "SUB_FUNCTION" listed_only
    ∷ word "SUB_GROUP" listed_only
    ∷ word "SUPPLIER" listed_only
    ∷ word "SWORD" (taken_choice 4)
    ∷ word "SYMBOL_LINK" listed_only
    ∷ word "SYSTEM_CONSTANT" listed_only
    ∷ word "TAB_INTP" listed_only
    ∷ word "TAB_NOINTP" listed_only
    ∷ word "TAB_VERB" (taken_choice 22)
    ∷ word "UBYTE" (taken_choice 1)
    ∷ word "ULONG" (taken_choice 5)
    ∷ word "UNIT" listed_only
    ∷ word "UNIT_CONVERSION" listed_only
    ∷ word "USER" listed_only
    ∷ word "USER_RIGHTS" listed_only
    ∷ word "UWORD" (taken_choice 3)
    ∷ word "VALUE" (taken_choice 15)
    ∷ word "VAL_BLK" (taken_choice 16)
    ∷ word "VARIABLES" listed_only
    ∷ word "VARIANT_CODING" listed_only
    ∷ word "VAR_ADDRESS" listed_only
    ∷ word "VAR_CHARACTERISTIC" listed_only
    ∷ word "VAR_CRITERION" listed_only
    ∷ word "VAR_FORBIDDEN_COMB" listed_only
    ∷ word "VAR_MEASUREMENT" listed_only
    ∷ word "VAR_NAMING" listed_only
    ∷ word "VAR_SELECTION_CHARACTERISTIC" listed_only
    ∷ word "VAR_SEPARATOR" listed_only
    ∷ word "VAR_SEPERATOR" listed_only
    ∷ word "VERSION" listed_only
    ∷ word "VIRTUAL" listed_only
    ∷ word "VIRTUAL_CHARACTERISTIC" listed_only
    ∷ word "WORD" listed_only
    ∷ []
