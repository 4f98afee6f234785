-- The codes that the grammar names are those of the crate words: every word beside what its class must be, a row to a line.
use Prim.Native.String.{String}
use mathlib.Core.Path.{◌≡◌, refl}
use mathlib.Core.List.{List, [], ◌∷◌, map}
use Rattle.words.specs.Kind.{Kind, taken_block, taken_plain, taken_choice, skipped_plain}
use Rattle.words.specs.Row.{word, bytes, same, kind_in}
use Rattle.words.specs.Table.{word_rows}
use Rattle.words.specs.Class.{class_of}
use Rattle.rows.specs.Codes.{PROJECT, MODULE, MOD-COMMON, COMPU-METHOD, COMPU-VTAB, RECORD-LAYOUT, AXIS-PTS, CHARACTERISTIC, AXIS-DESCR, MEASUREMENT, COEFFS-LINEAR, COEFFS, COMPU-TAB-REF, AXIS-PTS-REF, NUMBER, ECU-ADDRESS, FNC-VALUES, AXIS-PTS-X, AXIS-PTS-Y, NO-AXIS-PTS-X, NO-AXIS-PTS-Y, BYTE-ORDER, ALIGNMENT-BYTE, ALIGNMENT-WORD, ALIGNMENT-LONG, BIT-MASK, READ-ONLY, DEFAULT-VALUE, FORMAT, DISPLAY-IDENTIFIER, PHYS-UNIT, ASAP2-VERSION, A2ML-VERSION, UBYTE, SLONG, MSB-FIRST, MSB-LAST, ROW-DIR, COLUMN-DIR, INDEX-INCR, INDEX-DECR, DIRECT, VALUE, VAL-BLK, CURVE, MAP, IDENTICAL, LINEAR, RAT-FUNC, TAB-VERB, STD-AXIS, COM-AXIS}

abbrev codes : List (String × Kind)
codes =
    ("PROJECT", taken_block PROJECT)
    ∷ ("MODULE", taken_block MODULE)
    ∷ ("MOD_COMMON", taken_block MOD-COMMON)
    ∷ ("COMPU_METHOD", taken_block COMPU-METHOD)
    ∷ ("COMPU_VTAB", taken_block COMPU-VTAB)
    ∷ ("RECORD_LAYOUT", taken_block RECORD-LAYOUT)
    ∷ ("AXIS_PTS", taken_block AXIS-PTS)
    ∷ ("CHARACTERISTIC", taken_block CHARACTERISTIC)
    ∷ ("AXIS_DESCR", taken_block AXIS-DESCR)
    ∷ ("MEASUREMENT", taken_block MEASUREMENT)
    ∷ ("COEFFS_LINEAR", taken_plain COEFFS-LINEAR)
    ∷ ("COEFFS", taken_plain COEFFS)
    ∷ ("COMPU_TAB_REF", taken_plain COMPU-TAB-REF)
    ∷ ("AXIS_PTS_REF", taken_plain AXIS-PTS-REF)
    ∷ ("NUMBER", taken_plain NUMBER)
    ∷ ("ECU_ADDRESS", taken_plain ECU-ADDRESS)
    ∷ ("FNC_VALUES", taken_plain FNC-VALUES)
    ∷ ("AXIS_PTS_X", taken_plain AXIS-PTS-X)
    ∷ ("AXIS_PTS_Y", taken_plain AXIS-PTS-Y)
    ∷ ("NO_AXIS_PTS_X", taken_plain NO-AXIS-PTS-X)
    ∷ ("NO_AXIS_PTS_Y", taken_plain NO-AXIS-PTS-Y)
    ∷ ("BYTE_ORDER", taken_plain BYTE-ORDER)
    ∷ ("ALIGNMENT_BYTE", taken_plain ALIGNMENT-BYTE)
    ∷ ("ALIGNMENT_WORD", taken_plain ALIGNMENT-WORD)
    ∷ ("ALIGNMENT_LONG", taken_plain ALIGNMENT-LONG)
    ∷ ("BIT_MASK", taken_plain BIT-MASK)
    ∷ ("READ_ONLY", taken_plain READ-ONLY)
    ∷ ("DEFAULT_VALUE", taken_plain DEFAULT-VALUE)
    ∷ ("FORMAT", skipped_plain FORMAT)
    ∷ ("DISPLAY_IDENTIFIER", skipped_plain DISPLAY-IDENTIFIER)
    ∷ ("PHYS_UNIT", skipped_plain PHYS-UNIT)
    ∷ ("ASAP2_VERSION", skipped_plain ASAP2-VERSION)
    ∷ ("A2ML_VERSION", skipped_plain A2ML-VERSION)
    ∷ ("UBYTE", taken_choice UBYTE)
    ∷ ("SLONG", taken_choice SLONG)
    ∷ ("MSB_FIRST", taken_choice MSB-FIRST)
    ∷ ("MSB_LAST", taken_choice MSB-LAST)
    ∷ ("ROW_DIR", taken_choice ROW-DIR)
    ∷ ("COLUMN_DIR", taken_choice COLUMN-DIR)
    ∷ ("INDEX_INCR", taken_choice INDEX-INCR)
    ∷ ("INDEX_DECR", taken_choice INDEX-DECR)
    ∷ ("DIRECT", taken_choice DIRECT)
    ∷ ("VALUE", taken_choice VALUE)
    ∷ ("VAL_BLK", taken_choice VAL-BLK)
    ∷ ("CURVE", taken_choice CURVE)
    ∷ ("MAP", taken_choice MAP)
    ∷ ("IDENTICAL", taken_choice IDENTICAL)
    ∷ ("LINEAR", taken_choice LINEAR)
    ∷ ("RAT_FUNC", taken_choice RAT-FUNC)
    ∷ ("TAB_VERB", taken_choice TAB-VERB)
    ∷ ("STD_AXIS", taken_choice STD-AXIS)
    ∷ ("COM_AXIS", taken_choice COM-AXIS)
    ∷ []

each-code : map (λ c. class_of (bytes c.0)) codes ≡ map (λ c. c.1) codes
unfolding class_of kind_in same word_rows word bytes
each-code = refl
