-- What functions between the calls answer and leave: what proofs of code go by. No definition of a call rests on it.
use Rattle.std.specs.Prelude.{ℕ, zero, suc, ◌+◌, ◌-◌, min, List, Bool, cond, ◌||◌, pos, get_or, set}
use Rattle.number.specs.Answer.{Answer, given, refused}
use Rattle.tables.specs.Form.{method_section, tables_in, table_cell, method_of}
use Rattle.look.specs.declared.element.Line.{Line}
use Rattle.look.specs.declared.meaning.Meaning.{Meaning}
use Rattle.look.specs.Element.{past_records, line_of, touched}
use Rattle.look.specs.Calls.{Lent, checked, Kept, asks_by, is_tab_verb, writable, judged_element}

-- ---- tests that are made one after the other
-- the number of a refusal, 0 for none
abbrev pub refusal_of : {A : Type 0} → Answer A → ℕ
refusal_of (given a) = 0
refusal_of (refused k) = k

-- 20, 22
abbrev pub checked_no : List ℕ → Lent → Bool → ℕ
checked_no t l enough = refusal_of (checked t l enough (given (tt {0})))

-- 21, 19
abbrev pub writable_no : List ℕ → ℕ → ℕ → ℕ
writable_no t g i = refusal_of (writable t g i (given (tt {0})))

-- 20, 22, 14, 21, 19
abbrev pub element_no : List ℕ → Lent → Bool → ℕ → ℕ → ℕ → ℕ
element_no t l enough o p i = refusal_of (judged_element t l enough o p i (given (tt {0})))

-- ---- what is read once for a group
-- what group g's raw numbers mean by: its verbal table and that table's number, or its coefficients
abbrev pub meaning_of : List ℕ → ℕ → Meaning
meaning_of t g = record {
  verbal = is_tab_verb (tables_in t) g;
  table = min ((tables_in t).slots method_section (method_of (tables_in t) g - 1) table_cell - 1) past_records;
  k = asks_by (tables_in t) g;
}

-- ---- a line at a time
-- the lines that are worked out afresh: all of them, or those of elements with one of the bytes from lo up to hi
abbrev pub picked : List ℕ → ℕ → ℕ → Bool → ℕ → ℕ → Bool
picked t lo hi all g i = all || touched (tables_in t) lo hi g i

-- line k worked out afresh as l where p says so
abbrev pub put_line : Bool → ℕ → Line → Kept → Kept
put_line p k l c = record {
  image = c.image;
  raw = set c.raw k (cond p l.raw (get_or c.raw k (pos 0)));
  state = set c.state k (cond p l.state (get_or c.state k 0));
  first = set c.first k (cond p l.first (get_or c.first k (pos 0)));
  second = set c.second k (cond p l.second (get_or c.second k (pos 0)));
}

-- the first so many lines of group g, which begin at line k, worked out afresh where s says so
abbrev pub put_lines : (ℕ → ℕ → Bool) → List ℕ → List ℕ → ℕ → ℕ → ℕ → Kept → Kept
put_lines s t img g k zero c = c
put_lines s t img g k (suc i) c = put_line (s g i) (k + i) (line_of (tables_in t) img g i) (put_lines s t img g k i c)
