-- What is true of the records of every description that was read (proofs/Keeps.antt).
-- A record that is not there reads as zeros, so that all of it is said of every number i of a record.
use Rattle.std.specs.Prelude.{ℕ, ◌≤◌, ◌≡◌, List, Bool, true, ◌||◌, length, eqb}
use Rattle.convert.specs.Limit.{at_most}
use Rattle.records.specs.Records.{count, slot}
use Rattle.records.proofs.Encode.{Good}
use Rattle.rows.specs.Sections.{sections, method, table, entry, layout, object, axis}
use Rattle.rows.specs.Slots.{own_name, own_name_past, first_held, default_value, default_value_past, entry_text, entry_text_past, object_lower_limit, object_upper_limit, axis_lower_limit, axis_upper_limit}
use Rattle.grammar.specs.Move.{view, decimal_slots}

-- the first byte of a text and the place past it, in a description of n bytes
abbrev pub Inside : ℕ → ℕ → ℕ → Type 0
Inside n a e = (a ≤ e) × (e ≤ n)

-- "name twice among objects .., methods, tables or layouts each": the sections whose records have a name
abbrev pub is_named : ℕ → Bool
is_named j = eqb j method || eqb j table || eqb j layout || eqb j object

pub record Kept (x : List ℕ) (d : List (List (List ℕ))) : Type 0 where
  -- names, default texts and the texts of pairs lie inside the description
  pub names : (j i : ℕ) → is_named j ≡ true → Inside (length x) (slot d j i own_name) (slot d j i own_name_past)
  pub defaults : (i : ℕ) → Inside (length x) (slot d table i default_value) (slot d table i default_value_past)
  pub texts : (i : ℕ) → Inside (length x) (slot d entry i entry_text) (slot d entry i entry_text_past)
  -- a table's first entry is one of those read, or the next
  pub firsts : (i : ℕ) → slot d table i first_held ≤ count d entry
  -- "lower limit above upper" is refused: limits are in order
  pub limits : (i : ℕ) → at_most (decimal_slots (view d) object i object_lower_limit) (decimal_slots (view d) object i object_upper_limit) ≡ true
  pub axis_limits : (i : ℕ) → at_most (decimal_slots (view d) axis i axis_lower_limit) (decimal_slots (view d) axis i axis_upper_limit) ≡ true
  -- the records are as wide as their sections, and no more than their most
  pub good : Good sections d
