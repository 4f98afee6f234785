-- "A whole listing": the header, and a line for each element of the kept list, in the list's order.
use Rattle.std.specs.Prelude.{ℕ, zero, suc, ◌+◌, ◌/◌, ◌%◌, List, [], ◌++◌, cond, leb, ℤ, pos, length, get_or, Result, Ok, Err}
use Rattle.number.specs.Answer.{Answer, given, refused}
use Rattle.tables.specs.Form.{object_section, group_section, tables_in, name_cell, name_past_cell}
use Rattle.number.specs.Below.{sum_below}
use Rattle.tables.specs.Group.{group_of, elements, line_of}
use Rattle.look.specs.Calls.{Kept, checked, has_room, lent_by, unless, is_element}
use Rattle.look.specs.Lines.{laid_over}
use Rattle.look.specs.Steps.{checked_no}
use Rattle.print.specs.Print.{slice}
use Rattle.look.specs.Refused.{refusal_number}
use Rattle.look.specs.declared.refusal.CallRefusal.{CallRefusal}
use Rattle.listing.specs.Print.{physical, line, header}

-- the list's four columns
pub record Columns : Type 0 where
  pub raw : List ℤ
  pub state : List ℕ
  pub first : List ℤ
  pub second : List ℤ

abbrev pub columns : List ℤ → List ℕ → List ℤ → List ℤ → Columns
columns r s a b = record { raw = r; state = s; first = a; second = b }

abbrev pub columns_of : Kept → Columns
columns_of k = columns k.raw k.state k.first k.second

module _ (x t : List ℕ) (k : Columns) where
  -- the name of group g's object
  abbrev pub name_of : ℕ → List ℕ
  name_of g = slice x ((tables_in t).slots object_section (g / 3) name_cell) ((tables_in t).slots object_section (g / 3) name_past_cell)

  -- the printed line of element i of group g, which is line n of the list
  unfoldable pub printed_line : ℕ → ℕ → ℕ → List ℕ
  printed_line g i n =
      line x (name_of g) (g % 3) i (get_or k.raw n (pos 0)) (physical x (get_or k.state n 0) (get_or k.first n (pos 0)) (get_or k.second n (pos 0)))

  -- the first so many lines of group g
  unfoldable pub printed_part : ℕ → ℕ → List ℕ
  printed_part g zero = []
  printed_part g (suc i) = printed_part g i ++ printed_line g i (sum_below g (elements (tables_in t)) + i)

  -- the lines of the groups below g
  unfoldable pub printed_below : ℕ → List ℕ
  printed_below zero = []
  printed_below (suc g) = printed_below g ++ printed_part g (elements (tables_in t) g)

  unfoldable pub printed : List ℕ
  printed = header ++ printed_below ((tables_in t).counts group_section)

-- how many bytes were written, and what the buffer holds
pub record Listed : Type 0 where
  pub answer : Answer ℕ
  pub out : List ℕ

abbrev pub listed_by : Answer (List ℕ) → List ℕ → Listed
listed_by (given b) out = record { answer = given (length b); out = laid_over b out }
listed_by (refused n) out = record { answer = refused n; out = out }

-- "or 20 where it is too short": 20 for what is lent, 22, then 20 where the bytes do not fit; a refusal leaves the buffer as it was
abbrev pub if_fits : List ℕ → List ℕ → Answer (List ℕ)
if_fits b out = cond (leb (length b) (length out)) (given b) (refused 20)

-- what the tests on a kept list give: 20, 22, or 0 for neither
unfoldable pub kept_no : ℕ → List ℕ → ℕ → Kept → ℕ
kept_no n t base k = checked_no t (lent_by n base k) (has_room t k)

unfoldable pub listing : List ℕ → List ℕ → ℕ → Kept → List ℕ → Listed
listing x t base k out = listed_by (checked t (lent_by (length x) base k) (has_room t k) (if_fits (printed x t (columns_of k)) out)) out

-- one element's line, by object number, part and index: "20, 22, 14", then 20 where the bytes do not fit
unfoldable pub printing : List ℕ → List ℕ → ℕ → Kept → ℕ → ℕ → ℕ → List ℕ → Listed
printing x t base k o p i out =
    listed_by (checked t (lent_by (length x) base k) (has_room t k) (unless (is_element (tables_in t) o p i) 14 (if_fits (printed_line x t (columns_of k) (group_of o p) i (line_of (tables_in t) (group_of o p) i)) out))) out

-- what the code's answer says, with what the buffer holds
abbrev pub listed_of : Result ℕ CallRefusal → List ℕ → Listed
listed_of (Ok n) out = record { answer = given n; out = out }
listed_of (Err r) out = record { answer = refused (refusal_number r); out = out }
