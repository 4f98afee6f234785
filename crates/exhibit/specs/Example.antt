-- A description with a masked value, curves with an axis of their own and a shared one, maps, a block of values and a measurement, and its image: what it is
-- accepted into, and its listing. It has every keyword with a meaning, with numbers that differ from those beside them, so that no two slots can be exchanged on
-- the way to the tables; some of them are written with an exponent.
use Rattle.std.specs.Prelude.{ℕ, List, [], ◌∷◌, ◌++◌, replicate}
use Rattle.text.specs.Bytes.{spelt}
use Rattle.records.specs.Cells.{encode}
use Rattle.convert.specs.Edition.{edition_two}
use Rattle.tables.specs.Form.{table_sections, group_width}
use Rattle.tables.specs.declared.setting.Setting.{Setting}

abbrev pub example_text : List ℕ
example_text =
    spelt "/begin PROJECT P \"\"\n"
    ++ spelt "/begin MODULE M \"\"\n"
    ++ spelt "/begin MOD_COMMON \"\" BYTE_ORDER MSB_FIRST ALIGNMENT_BYTE 4 ALIGNMENT_WORD 2 ALIGNMENT_LONG 8 /end MOD_COMMON\n"
    ++ spelt "/begin COMPU_METHOD Half \"\" LINEAR \"\" \"\"COEFFS_LINEAR 5e-1 -40 /end COMPU_METHOD\n"
    ++ spelt "/begin COMPU_METHOD Verb \"\" TAB_VERB \"\" \"\" COMPU_TAB_REF Words /end COMPU_METHOD\n"
    ++ spelt "/begin COMPU_METHOD Ratio \"\" RAT_FUNC \"\" \"\" COEFFS 0 2 3 0 0.5 7 /end COMPU_METHOD\n"
    ++ spelt "/begin COMPU_VTAB Words \"\" TAB_VERB 2 0 \"OFF\" 1 \"ON\" DEFAULT_VALUE \"??\" /end COMPU_VTAB\n"
    ++ spelt "/begin RECORD_LAYOUT One FNC_VALUES 1 UWORD ROW_DIR DIRECT /end RECORD_LAYOUT\n"
    ++ spelt "/begin RECORD_LAYOUT Line NO_AXIS_PTS_X 1 UBYTE AXIS_PTS_X 2 UWORD INDEX_INCR DIRECT FNC_VALUES 3 UBYTE ROW_DIR DIRECT /end RECORD_LAYOUT\n"
    ++ spelt "/begin RECORD_LAYOUT Field AXIS_PTS_X 1 UBYTE INDEX_DECR DIRECT AXIS_PTS_Y 2 SBYTE INDEX_INCR DIRECT FNC_VALUES 3 SLONG COLUMN_DIR DIRECT /end RECORD_LAYOUT\n"
    ++ spelt "/begin RECORD_LAYOUT Points ALIGNMENT_BYTE 1 ALIGNMENT_WORD 8 ALIGNMENT_LONG 2 AXIS_PTS_X 7 SWORD INDEX_DECR DIRECT NO_AXIS_PTS_X 3 UBYTE /end RECORD_LAYOUT\n"
    ++ spelt "/begin RECORD_LAYOUT Grid NO_AXIS_PTS_X 5 UBYTE NO_AXIS_PTS_Y 4 UWORD AXIS_PTS_X 8 UBYTE INDEX_INCR DIRECT AXIS_PTS_Y 6 ULONG INDEX_DECR DIRECT\n"
    ++ spelt "FNC_VALUES 9 SBYTE ROW_DIR DIRECT ALIGNMENT_LONG 2 /end RECORD_LAYOUT\n"
    ++ spelt "/begin CHARACTERISTIC Masked \"\" VALUE 0x100C One 0 Half 0 65535 BIT_MASK 0x00F0 READ_ONLY /end CHARACTERISTIC\n"
    ++ spelt "/begin CHARACTERISTIC Curve \"\" CURVE 0x1001 Line 0 NO_COMPU_METHOD 0 255\n"
    ++ spelt "/begin AXIS_DESCR STD_AXIS NO_INPUT_QUANTITY NO_COMPU_METHOD 4 0 65535 /end AXIS_DESCR /end CHARACTERISTIC\n"
    ++ spelt "/begin CHARACTERISTIC Field \"\" MAP 0x1010 Field 0 NO_COMPU_METHOD -1.5 2E+3\n"
    ++ spelt "/begin AXIS_DESCR STD_AXIS Seen NO_COMPU_METHOD 2 0 255 READ_ONLY /end AXIS_DESCR\n"
    ++ spelt "/begin AXIS_DESCR STD_AXIS NO_INPUT_QUANTITY NO_COMPU_METHOD 3 -100 1e2 /end AXIS_DESCR /end CHARACTERISTIC\n"
    ++ spelt "/begin AXIS_PTS Shared \"\" 0x1030 Seen Points 0 Ratio 5 -30 31 BYTE_ORDER MSB_LAST /end AXIS_PTS\n"
    ++ spelt "/begin CHARACTERISTIC Over \"\" CURVE 0x1040 One 0 Half -20 21.5\n"
    ++ spelt "/begin AXIS_DESCR COM_AXIS Seen NO_COMPU_METHOD 3 0 9 AXIS_PTS_REF Shared /end AXIS_DESCR /end CHARACTERISTIC\n"
    ++ spelt "/begin CHARACTERISTIC Block \"\" VAL_BLK 0x1044 One 0 NO_COMPU_METHOD 1 2 NUMBER 3 BYTE_ORDER MSB_LAST /end CHARACTERISTIC\n"
    ++ spelt "/begin CHARACTERISTIC Grid \"\" MAP 0x1050 Grid 0 Half -7 8\n"
    ++ spelt "/begin AXIS_DESCR STD_AXIS NO_INPUT_QUANTITY Half 6 1 3.25 /end AXIS_DESCR\n"
    ++ spelt "/begin AXIS_DESCR STD_AXIS Seen Ratio 7 -9 9 READ_ONLY /end AXIS_DESCR /end CHARACTERISTIC\n"
    ++ spelt "/begin MEASUREMENT Seen \"\" UBYTE Verb 0 0 0 1 ECU_ADDRESS 0x1002 /end MEASUREMENT\n"
    ++ spelt "/end MODULE\n"
    ++ spelt "/end PROJECT"

-- what a load of it is told: its image stands from 0x1000 on, and it is of edition 2
abbrev pub example_setting : Setting
example_setting = record { base = 0x1000; edition = edition_two }

-- 106 bytes
abbrev pub example_image : List ℕ
example_image =
    -- the curve from 0x1001 on: three points, which are 10, 20 and 30, and its values 5, 6 and 7 ("P10")
    0 ∷ 3 ∷ 0 ∷ 10 ∷ 0 ∷ 20 ∷ 0 ∷ 30 ∷ 5 ∷ 6 ∷ 7 ∷ 0
    -- the masked value at 0x100C: "mask 0x00F0, word 0x12A7: raw 10" ("P7")
    ∷ 18 ∷ 0xA7 ∷ 0 ∷ 0
    -- the map from 0x1010 on: its x points with the last first, its y points at the next address that 4 divides
    ∷ 0xC8 ∷ 100 ∷ 0 ∷ 0 ∷ 0xFF ∷ 0 ∷ 1 ∷ 0
    -- and its values with y fastest
    ∷ 0 ∷ 0 ∷ 0 ∷ 1 ∷ 0 ∷ 0 ∷ 0 ∷ 2 ∷ 0 ∷ 0 ∷ 0 ∷ 3 ∷ 0xFF ∷ 0xFF ∷ 0xFF ∷ 0xFC ∷ 0 ∷ 0 ∷ 0 ∷ 5 ∷ 0 ∷ 0 ∷ 0 ∷ 6
    -- the shared axis from 0x1030 on: its count, and aligned by 8 its points with the last first, low byte first
    ∷ 2 ∷ 0 ∷ 0 ∷ 0 ∷ 0 ∷ 0 ∷ 0 ∷ 0 ∷ 4 ∷ 0 ∷ 0xFF ∷ 0xFF ∷ 0 ∷ 0 ∷ 0 ∷ 0
    -- the values over it
    ∷ 0 ∷ 1 ∷ 0 ∷ 80
    -- the block, low byte first
    ∷ 1 ∷ 0 ∷ 2 ∷ 0 ∷ 3 ∷ 0 ∷ 0 ∷ 0 ∷ 0 ∷ 0 ∷ 0 ∷ 0
    -- the other map from 0x1050 on: its y count, its x count, its y points with the last first, its x points, its values
    ∷ 0 ∷ 2 ∷ 0 ∷ 0 ∷ 3 ∷ 0 ∷ 0 ∷ 0 ∷ 0 ∷ 5 ∷ 0 ∷ 0 ∷ 0 ∷ 1 ∷ 0 ∷ 0 ∷ 9 ∷ 10 ∷ 11 ∷ 0 ∷ 0xFF ∷ 0 ∷ 1 ∷ 2 ∷ 3 ∷ 4 ∷ []

-- the sections of the tables: head, objects, groups, methods, verbal tables, entries (tables, specs/Form.antt)
abbrev pub example_tables : List (List (List ℕ))
example_tables =
    -- head: edition, size mark, elements
    ((2 ∷ 0 ∷ 37 ∷ []) ∷ [])
    ∷ (
    -- an object: its name from and up to, what it is
    (1247 ∷ 1253 ∷ 15 ∷ [])
    ∷ (1357 ∷ 1362 ∷ 17 ∷ [])
    ∷ (1537 ∷ 1542 ∷ 18 ∷ [])
    ∷ (1797 ∷ 1803 ∷ 7 ∷ [])
    ∷ (1899 ∷ 1903 ∷ 17 ∷ [])
    ∷ (2072 ∷ 2077 ∷ 16 ∷ [])
    ∷ (2193 ∷ 2197 ∷ 18 ∷ [])
    ∷ (2414 ∷ 2418 ∷ 10 ∷ [])
    ∷ [])
    ∷ (
    -- a part: data type, byte order, place, points in x and y, room in x and y, walk, method, mask, forbidden, lower limit, upper limit (sign, whole, power),
    -- its count's data type and place; of each object x points, y points, values
    -- Masked
    replicate group_width 0
    ∷ replicate group_width 0
    ∷ (3 ∷ 1 ∷ 12 ∷ 1 ∷ 1 ∷ 1 ∷ 1 ∷ 0 ∷ 1 ∷ 240 ∷ 1 ∷ 0 ∷ 0 ∷ 0 ∷ 0 ∷ 65535 ∷ 0 ∷ 0 ∷ 0 ∷ [])
    -- Curve
    ∷ (3 ∷ 1 ∷ 2 ∷ 3 ∷ 1 ∷ 3 ∷ 1 ∷ 0 ∷ 0 ∷ 0 ∷ 0 ∷ 0 ∷ 0 ∷ 0 ∷ 0 ∷ 65535 ∷ 0 ∷ 1 ∷ 1 ∷ [])
    ∷ replicate group_width 0
    ∷ (1 ∷ 1 ∷ 8 ∷ 3 ∷ 1 ∷ 3 ∷ 1 ∷ 0 ∷ 0 ∷ 0 ∷ 0 ∷ 0 ∷ 0 ∷ 0 ∷ 0 ∷ 255 ∷ 0 ∷ 0 ∷ 0 ∷ [])
    -- Field
    ∷ (1 ∷ 1 ∷ 16 ∷ 2 ∷ 1 ∷ 2 ∷ 1 ∷ 1 ∷ 0 ∷ 0 ∷ 1 ∷ 0 ∷ 0 ∷ 0 ∷ 0 ∷ 255 ∷ 0 ∷ 0 ∷ 0 ∷ [])
    ∷ (2 ∷ 1 ∷ 20 ∷ 3 ∷ 1 ∷ 3 ∷ 1 ∷ 0 ∷ 0 ∷ 0 ∷ 0 ∷ 1 ∷ 100 ∷ 0 ∷ 0 ∷ 100 ∷ 0 ∷ 0 ∷ 0 ∷ [])
    ∷ (6 ∷ 1 ∷ 24 ∷ 2 ∷ 3 ∷ 2 ∷ 3 ∷ 2 ∷ 0 ∷ 0 ∷ 0 ∷ 1 ∷ 15 ∷ 1 ∷ 0 ∷ 2000 ∷ 0 ∷ 0 ∷ 0 ∷ [])
    -- Shared
    ∷ (4 ∷ 0 ∷ 56 ∷ 2 ∷ 1 ∷ 2 ∷ 1 ∷ 1 ∷ 3 ∷ 0 ∷ 0 ∷ 1 ∷ 30 ∷ 0 ∷ 0 ∷ 31 ∷ 0 ∷ 1 ∷ 48 ∷ [])
    ∷ replicate group_width 0
    ∷ replicate group_width 0
    -- Over
    ∷ replicate group_width 0
    ∷ replicate group_width 0
    ∷ (3 ∷ 1 ∷ 64 ∷ 2 ∷ 1 ∷ 2 ∷ 1 ∷ 0 ∷ 1 ∷ 0 ∷ 0 ∷ 1 ∷ 20 ∷ 0 ∷ 0 ∷ 215 ∷ 1 ∷ 0 ∷ 0 ∷ [])
    -- Block
    ∷ replicate group_width 0
    ∷ replicate group_width 0
    ∷ (3 ∷ 0 ∷ 68 ∷ 3 ∷ 1 ∷ 3 ∷ 1 ∷ 0 ∷ 0 ∷ 0 ∷ 0 ∷ 0 ∷ 1 ∷ 0 ∷ 0 ∷ 2 ∷ 0 ∷ 0 ∷ 0 ∷ [])
    -- Grid
    ∷ (1 ∷ 1 ∷ 96 ∷ 3 ∷ 1 ∷ 3 ∷ 1 ∷ 0 ∷ 1 ∷ 0 ∷ 0 ∷ 0 ∷ 1 ∷ 0 ∷ 0 ∷ 325 ∷ 2 ∷ 1 ∷ 84 ∷ [])
    ∷ (5 ∷ 1 ∷ 86 ∷ 2 ∷ 1 ∷ 2 ∷ 1 ∷ 1 ∷ 3 ∷ 0 ∷ 1 ∷ 1 ∷ 9 ∷ 0 ∷ 0 ∷ 9 ∷ 0 ∷ 3 ∷ 80 ∷ [])
    ∷ (2 ∷ 1 ∷ 100 ∷ 3 ∷ 2 ∷ 3 ∷ 2 ∷ 0 ∷ 1 ∷ 0 ∷ 0 ∷ 1 ∷ 7 ∷ 0 ∷ 0 ∷ 8 ∷ 0 ∷ 0 ∷ 0 ∷ [])
    -- Seen
    ∷ replicate group_width 0
    ∷ replicate group_width 0
    ∷ (1 ∷ 1 ∷ 2 ∷ 1 ∷ 1 ∷ 1 ∷ 1 ∷ 0 ∷ 2 ∷ 0 ∷ 1 ∷ 0 ∷ 0 ∷ 0 ∷ 0 ∷ 1 ∷ 0 ∷ 0 ∷ 0 ∷ [])
    ∷ [])
    -- a method: conversion; b, c, e, f (sign, size each); verbal table
    ∷ ((20 ∷ 0 ∷ 10 ∷ 0 ∷ 400 ∷ 0 ∷ 0 ∷ 0 ∷ 5 ∷ 0 ∷ []) ∷ (22 ∷ 0 ∷ 0 ∷ 0 ∷ 0 ∷ 0 ∷ 0 ∷ 0 ∷ 0 ∷ 1 ∷ []) ∷ (21 ∷ 0 ∷ 20 ∷ 0 ∷ 30 ∷ 0 ∷ 5 ∷ 0 ∷ 70 ∷ 0 ∷ []) ∷ [])
    -- a verbal table: its first entry, how many, its default text
    ∷ ((0 ∷ 2 ∷ 460 ∷ 464 ∷ []) ∷ [])
    -- an entry: sign, size, its text
    ∷ ((0 ∷ 0 ∷ 433 ∷ 438 ∷ []) ∷ (0 ∷ 1 ∷ 441 ∷ 445 ∷ []) ∷ [])
    ∷ []

-- the same in 36,617 cells
unfoldable pub example_cells : List ℕ
example_cells = encode table_sections 36617 example_tables

-- the whole listing
abbrev pub example_listing : List ℕ
example_listing =
    spelt "name\tpart\tindex\traw\tphysical\n"
    ++ spelt "Masked\tv\t0\t10\t-350/10\n"
    ++ spelt "Curve\tx\t0\t10\t10/1\n"
    ++ spelt "Curve\tx\t1\t20\t20/1\n"
    ++ spelt "Curve\tx\t2\t30\t30/1\n"
    ++ spelt "Curve\tv\t0\t5\t5/1\n"
    ++ spelt "Curve\tv\t1\t6\t6/1\n"
    ++ spelt "Curve\tv\t2\t7\t7/1\n"
    ++ spelt "Field\tx\t0\t100\t100/1\n"
    ++ spelt "Field\tx\t1\t200\t200/1\n"
    ++ spelt "Field\ty\t0\t-1\t-1/1\n"
    ++ spelt "Field\ty\t1\t0\t0/1\n"
    ++ spelt "Field\ty\t2\t1\t1/1\n"
    ++ spelt "Field\tv\t0\t1\t1/1\n"
    ++ spelt "Field\tv\t1\t-4\t-4/1\n"
    ++ spelt "Field\tv\t2\t2\t2/1\n"
    ++ spelt "Field\tv\t3\t5\t5/1\n"
    ++ spelt "Field\tv\t4\t3\t3/1\n"
    ++ spelt "Field\tv\t5\t6\t6/1\n"
    ++ spelt "Shared\tx\t0\t-1\t-100/25\n"
    ++ spelt "Shared\tx\t1\t4\t-\n"
    ++ spelt "Over\tv\t0\t1\t-395/10\n"
    ++ spelt "Over\tv\t1\t80\t0/10\n"
    ++ spelt "Block\tv\t0\t1\t1/1\n"
    ++ spelt "Block\tv\t1\t2\t2/1\n"
    ++ spelt "Block\tv\t2\t3\t3/1\n"
    ++ spelt "Grid\tx\t0\t9\t-355/10\n"
    ++ spelt "Grid\tx\t1\t10\t-350/10\n"
    ++ spelt "Grid\tx\t2\t11\t-345/10\n"
    ++ spelt "Grid\ty\t0\t1\t40/15\n"
    ++ spelt "Grid\ty\t1\t5\t-320/5\n"
    ++ spelt "Grid\tv\t0\t-1\t-405/10\n"
    ++ spelt "Grid\tv\t1\t0\t-400/10\n"
    ++ spelt "Grid\tv\t2\t1\t-395/10\n"
    ++ spelt "Grid\tv\t3\t2\t-390/10\n"
    ++ spelt "Grid\tv\t4\t3\t-385/10\n"
    ++ spelt "Grid\tv\t5\t4\t-380/10\n"
    ++ spelt "Seen\tv\t0\t0\t\"OFF\"\n"
