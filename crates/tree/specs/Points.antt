-- What is true of the counts and references in the records of every description that was read (proofs/Points.antt).
use Rattle.std.specs.Prelude.{ℕ, ◌+◌, ◌≤◌, ◌<◌, ◌≡◌}
use Rattle.records.specs.Records.{count, slot}
use Rattle.rows.specs.Codes.{AXIS-PTS, CHARACTERISTIC, VAL-BLK, TAB-VERB, COM-AXIS}
use Rattle.rows.specs.Sections.{method, object, axis}
use Rattle.rows.specs.Slots.{first_held, block_code, conversion_type, compu_tab_ref_past, object_type, object_conversion_past, object_max_points, number_of_values, axis_attribute, axis_conversion_past, axis_max_points, axis_pts_ref_past}
use Rattle.grammar.specs.Keyword.{axes_of}
use Rattle.tree.specs.Tree.{Records}

pub record Pointed (d : Records) : Type 0 where
  -- "MaxAxisPoints or NUMBER of 0 is 2"
  pub points : (i : ℕ) → slot d object i block_code ≡ AXIS-PTS → 1 ≤ slot d object i object_max_points
  pub numbers : (i : ℕ) → slot d object i block_code ≡ CHARACTERISTIC → slot d object i object_type ≡ VAL-BLK → 1 ≤ slot d object i number_of_values
  pub axis_points : (a : ℕ) → a < count d axis → 1 ≤ slot d axis a axis_max_points
  -- a CURVE has one AXIS_DESCR and a MAP two, from its first on
  pub axes : (i : ℕ) → slot d object i block_code ≡ CHARACTERISTIC → slot d object i first_held + axes_of (slot d object i object_type) ≤ count d axis
  -- "COM_AXIS with AXIS_PTS_REF": the reference is there
  pub references : (a : ℕ) → slot d axis a axis_attribute ≡ COM-AXIS → 1 ≤ slot d axis a axis_pts_ref_past
  -- every AXIS_PTS, CHARACTERISTIC and MEASUREMENT names its conversion, and so does every AXIS_DESCR
  pub converted : (i : ℕ) → i < count d object → 1 ≤ slot d object i object_conversion_past
  pub axis_converted : (a : ℕ) → a < count d axis → 1 ≤ slot d axis a axis_conversion_past
  -- "TAB_VERB with COMPU_TAB_REF to a COMPU_VTAB": the reference is there
  pub tabled : (m : ℕ) → slot d method m conversion_type ≡ TAB-VERB → 1 ≤ slot d method m compu_tab_ref_past
