-- What an accepted load leaves, for the theorems on its elements, values and list: its tables are those that its records make, as long as what was lent,
-- and they keep the table rule.
use Prim.Native.Nat.{ℕ, ◌*◌, ◌<◌}
use mathlib.Core.Path.{◌≡◌, sym, ◌∙◌, ap}
use mathlib.Core.List.{List}
use mathlib.Core.Bool.{true}
use native.Mathlib.Omega.{arith}
use lib.Dec.{leb}
use lib.ListN.{length}
use Rattle.text.specs.Answer.{given}
use Rattle.text.proofs.Within.{and_left}
use Rattle.records.specs.Records.{count}
use Rattle.records.specs.Cells.{room}
use Rattle.rows.specs.Sections as records
use Rattle.grammar.specs.Move.{view}
use Rattle.grammar.specs.Read.{read}
use Rattle.facts.proofs.Keeps.{read_keeps}
use Rattle.tables.specs.declared.setting.Setting.{Setting}
use Rattle.build.specs.Build.{built}
use Rattle.build.proofs.BuiltLaws.{Within, within_of, built-good, count-objects, count-groups, slot-head}
use Rattle.tables.specs.Form.{table_sections, object_section, group_section, edition_cell, total_cell, Tables, tables_in, tables_of, edition, total}
use Rattle.tables.specs.Group.{group_of}
use Rattle.tables.specs.Sizes.{sizes_fit}
use Rattle.tables.specs.Rule.{ruled, keeps_rule}
use Rattle.tables.proofs.Cells.{tables-encode, encode-rule}
use Rattle.load.specs.Load.{Loaded, loaded}
use Rattle.tree.specs.Tree.{Records}
use Rattle.tree.proofs.Accepted as tree
use Rattle.keeps.specs.Accepted.{all_elements}
use Rattle.keeps.specs.Stands.{Part, points_x, points_y, values, number_of}
use Rattle.keeps.proofs.Rule.{loaded-keeps}
use Rattle.look.specs.Calls.{groups}
use Rattle.demands.specs.Rules.{Fits, Keeps}
use Rattle.demands.proofs.Lengths.{length-encode}
use Rattle.demands.proofs.Accepting.{table-room, fits-enough, accepted-leaves, accepted-exactly}

-- x, y and values have the numbers 0, 1 and 2
pub part_below : (p : Part) → number_of p < 3
part_below points_x = omega arith
part_below points_y = omega arith
part_below values = omega arith

module _ (x image : List ℕ) (setting : Setting) (lent work : List ℕ) (f : Fits x image setting lent work) (k : Keeps x image setting.base) where
  -- the description's records, how many elements they have, and the tables that the load leaves
  abbrev pub d : Records
  d = k.records

  abbrev pub elements : ℕ
  elements = all_elements image setting.base x d

  abbrev pub made : Records
  made = built image setting x (view d) elements

  abbrev pub t : List ℕ
  t = (loaded x image setting lent work).tables

  pub is_read : read x ≡ given d
  is_read = (tree.accepted-exactly x d).1 k.tree

  pub within : Within (view d)
  within = within_of d (read_keeps x d is_read).good

  -- what can be asked of the tables can be asked of the records that are made
  pub same : tables_in t ≡ tables_of made
  same = ap (λ (o : Loaded). tables_in o.tables) (accepted-leaves x image setting lent work f k) ∙ tables-encode (length lent) made (built-good image setting x (view d) elements within)

  pub is-accepted : (loaded x image setting lent work).answer ≡ given tt
  is-accepted = (accepted-exactly x image setting lent work).1 (f, k)

  pub keeps-rule : keeps_rule (length x) (length image) t ≡ true
  keeps-rule = loaded-keeps x image setting lent work is-accepted

  -- of an image of any length, the table rule is what it says of the records
  pub rule-is : (n m : ℕ) → keeps_rule n m t ≡ ruled (tables_in t) n m
  rule-is n m =
      ap (λ (o : Loaded). keeps_rule n m o.tables) (accepted-leaves x image setting lent work f k)
      ∙ encode-rule n m (length lent) made (built-good image setting x (view d) elements within) (rw table-room f.tables_fit)
      ∙ sym (ap (λ (T : Tables). ruled T n m) same)

  pub long : length t ≡ length lent
  long =
      ap (λ (o : Loaded). length o.tables) (accepted-leaves x image setting lent work f k)
      ∙ length-encode table_sections (length lent) made (built-good image setting x (view d) elements within) (rw table-room f.tables_fit)

  -- no later call finds them too short
  pub sizes : sizes_fit (length x) (length image) setting.base (length t) ≡ true
  sizes = rw long (and_left (sizes_fit (length x) (length image) setting.base (length lent)) (leb (room records.sections) (length work)) (fits-enough x image setting lent work f))

  -- "The load takes the edition, .. and the tables keep it."
  pub edition-of : edition (tables_in t) ≡ setting.edition
  edition-of = ap (λ (T : Tables). edition T) same ∙ slot-head image setting x (view d) elements within edition_cell

  pub total_of : total (tables_in t) ≡ elements
  total_of = ap (λ (T : Tables). total T) same ∙ slot-head image setting x (view d) elements within total_cell

  pub objects-of : (tables_in t).counts object_section ≡ count d records.object
  objects-of = ap (λ (T : Tables). T.counts object_section) same ∙ count-objects image setting x (view d) elements within

  -- "an object has three parts"
  pub groups_of : groups t ≡ (tables_in t).counts object_section * 3
  groups_of = ap (λ (T : Tables). T.counts group_section) same ∙ count-groups image setting x (view d) elements within ∙ ap (λ (n : ℕ). n * 3) (sym objects-of)

  -- each part of an object has its group
  pub group_below : (i : ℕ) → i < count d records.object → (p : Part) → group_of i (number_of p) < groups t
  group_below i l p =
      omega (arith, part_below p, groups_of, objects-of)
