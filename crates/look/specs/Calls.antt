-- What each call answers, and what it leaves.
use Rattle.std.specs.Prelude.{ℕ, zero, suc, ◌+◌, ◌-◌, min, List, Bool, true, cond, not, ◌&&◌, ltb, leb, eqb, ℤ, pos, length, get_or}
use Rattle.number.specs.Answer.{Answer, given, refused}
use Rattle.number.specs.Below.{any_below}
use Rattle.cell.specs.Kind.{shape_of}
use Rattle.cell.specs.Raw.{fits_raw, written}
use Rattle.convert.specs.Asked.{asked_raw}
use Rattle.convert.specs.Edition.{halves_of}
use Rattle.convert.specs.Method.{identical_of}
use Rattle.convert.specs.Shown.{Display, shown}
use Rattle.convert.specs.Told.{held}
use Rattle.convert.specs.declared.fraction.Physical.{Physical}
use Rattle.convert.specs.declared.method.Coefficients.{Coefficients}
use Rattle.text.specs.Bytes.{same_part}
use Rattle.tables.specs.Form.{object_section, group_section, method_section, Tables, tables_in, name_cell, name_past_cell, lower_cell, upper_cell, conversion_cell, edition, total, kind, first, method_of, mask, forbidden, counter, counter_place, limit, coefficients}
use Rattle.tables.specs.Group.{group_of, elements, bytes, place_of}
use Rattle.tables.specs.Rule.{is_verbal, keeps_rule}
use Rattle.tables.specs.Sizes.{sizes_fit}
use Rattle.look.specs.declared.element.Line.{Line}
use Rattle.look.specs.Lines.{made, fresh}
use Rattle.look.specs.Element.{means, raw_in, line_of, shares, touched}

-- a length of description, a length of image, a base address: what a call lends beside the tables
pub record Lent : Type 0 where
  pub text : ℕ
  pub image : ℕ
  pub base : ℕ

abbrev pub lent_of : ℕ → ℕ → ℕ → Lent
lent_of n m base = record { text = n; image = m; base = base }

-- the refusal k where a test fails, and else the answer
abbrev pub unless : {A : Type 0} → Bool → ℕ → Answer A → Answer A
unless good k a = cond good a (refused k)

-- "20, 22": `enough` says that no lent list is "below the tables' element count"
unfoldable pub checked : {A : Type 0} → List ℕ → Lent → Bool → Answer A → Answer A
checked t l enough a =
    unless (sizes_fit l.text l.image l.base (length t) && enough) 20 (unless (keeps_rule l.text l.image t) 22 a)

-- "14: no such element": object number, part (x 0, y 1, v 2) and index
unfoldable pub is_element : Tables → ℕ → ℕ → ℕ → Bool
is_element T o p i = ltb o (T.counts object_section) && ltb p 3 && ltb i (elements T (group_of o p))

-- ---- the plain search: "The search for a name stops at the first object that bears it."

-- the first object from i on, of f, that bears the name; its number and one more, 0 for none
unfoldable pub search_from : ℕ → List ℕ → Tables → List ℕ → ℕ → ℕ
search_from zero x T w i = 0
search_from (suc f) x T w i = cond (same_part x (T.slots object_section i name_cell) (T.slots object_section i name_past_cell) w 0 (length w)) (suc i) (search_from f x T w (suc i))

unfoldable pub searched : List ℕ → List ℕ → Lent → List ℕ → Answer ℕ
searched x t l w = checked t l true (given (search_from ((tables_in t).counts object_section) x (tables_in t) w 0))

-- ---- reading: "Reading an element: 20, 22, 14."

-- raw, what it means as a line holds it, what is shown of it
pub record Reading : Type 0 where
  pub raw : ℤ
  pub value : Physical
  pub display : Display

abbrev pub reading_of : Tables → ℕ → ℤ → Reading
reading_of T g raw = record { raw = raw; value = held (means T g raw); display = shown (means T g raw) }

unfoldable pub reading : List ℕ → List ℕ → Lent → ℕ → ℕ → ℕ → Answer Reading
reading t image l o p i =
    checked t l true (unless (is_element (tables_in t) o p i) 14 (given (reading_of (tables_in t) (group_of o p) (raw_in (tables_in t) image (group_of o p) i))))

-- ---- the list

-- an image and the list's four columns
pub record Kept : Type 0 where
  pub image : List ℕ
  pub raw : List ℤ
  pub state : List ℕ
  pub first : List ℤ
  pub second : List ℤ

abbrev pub kept : List ℕ → List ℤ → List ℕ → List ℤ → List ℤ → Kept
kept img r s a b = record { image = img; raw = r; state = s; first = a; second = b }

-- how many lines the shortest column has
abbrev pub room : Kept → ℕ
room k = min (min (length k.raw) (length k.state)) (min (length k.first) (length k.second))

abbrev pub has_room : List ℕ → Kept → Bool
has_room t k = leb (total (tables_in t)) (room k)

abbrev pub groups : List ℕ → ℕ
groups t = (tables_in t).counts group_section

-- the list made anew from its image
unfoldable pub remade : List ℕ → Kept → Kept
remade t k = record {
  image = k.image;
  raw = made (λ g i. (line_of (tables_in t) k.image g i).raw) (elements (tables_in t)) (groups t) k.raw;
  state = made (λ g i. (line_of (tables_in t) k.image g i).state) (elements (tables_in t)) (groups t) k.state;
  first = made (λ g i. (line_of (tables_in t) k.image g i).first) (elements (tables_in t)) (groups t) k.first;
  second = made (λ g i. (line_of (tables_in t) k.image g i).second) (elements (tables_in t)) (groups t) k.second;
}

-- with another image, the lines that s picks worked out afresh from it
unfoldable pub refreshed : (ℕ → ℕ → Bool) → List ℕ → List ℕ → Kept → Kept
refreshed s t img k = record {
  image = img;
  raw = fresh s (λ g i. (line_of (tables_in t) img g i).raw) (pos 0) (elements (tables_in t)) (groups t) k.raw;
  state = fresh s (λ g i. (line_of (tables_in t) img g i).state) 0 (elements (tables_in t)) (groups t) k.state;
  first = fresh s (λ g i. (line_of (tables_in t) img g i).first) (pos 0) (elements (tables_in t)) (groups t) k.first;
  second = fresh s (λ g i. (line_of (tables_in t) img g i).second) (pos 0) (elements (tables_in t)) (groups t) k.second;
}

-- what a call answers, and what is kept after it: "No refusal touches image or list."
pub record After : Type 0 where
  pub answer : Answer (Unit {0})
  pub left : Kept

abbrev pub afterwards : {A : Type 0} → Answer A → Kept → (A → Kept) → After
afterwards (given a) k f = record { answer = given (tt {0}); left = f a }
afterwards (refused n) k f = record { answer = refused n; left = k }

-- n bytes of description at a base address, with k's image
abbrev pub lent_by : ℕ → ℕ → Kept → Lent
lent_by n base k = lent_of n (length k.image) base

-- "Making a list: 20, 22."
unfoldable pub making : List ℕ → ℕ → ℕ → Kept → After
making t n base k = afterwards (checked t (lent_by n base k) (has_room t k) (given (tt {0}))) k (λ _. remade t k)

-- ---- writing

-- a raw number, or a physical value in text
pub data Wanted : Type 0 where
  raw_number : ℤ → Wanted
  physical_text : List ℕ → Wanted

pub record Request : Type 0 where
  pub object : ℕ
  pub part : ℕ
  pub index : ℕ
  pub wanted : Wanted

abbrev pub request : ℕ → ℕ → ℕ → Wanted → Request
request o p i w = record { object = o; part = p; index = i; wanted = w }

abbrev pub group_in : Request → ℕ
group_in q = group_of q.object q.part

-- group g has a stored count with one of the bytes from lo up to hi
unfoldable pub is_counted : List ℕ → ℕ → ℕ → ℕ → Bool
is_counted t lo hi g = shares lo hi (counter_place (tables_in t) g) (shape_of (counter (tables_in t) g)).bytes && not (eqb (counter (tables_in t) g) 0)

-- "19: the element to write shares a byte with any stored count"
unfoldable pub on_count : List ℕ → ℕ → ℕ → Bool
on_count t lo hi = any_below (groups t) (is_counted t lo hi)

-- the coefficients that group g's values are asked by
unfoldable pub asks_by : Tables → ℕ → Coefficients
asks_by T g = cond (eqb (method_of T g) 0) identical_of (coefficients T (method_of T g - 1))

-- whether group g has a verbal table
unfoldable pub is_tab_verb : Tables → ℕ → Bool
is_tab_verb T g = not (eqb (method_of T g) 0) && is_verbal (T.slots method_section (method_of T g - 1) conversion_cell)

-- "Raw writes test type and mask, no limits." "15 .. physical write under TAB_VERB"; a half goes by the rule of the edition that the tables keep
abbrev pub wanted_raw : Tables → ℕ → Wanted → Answer ℤ
wanted_raw T g (raw_number z) = unless (fits_raw (shape_of (kind T g)) (mask T g) z) 18 (given z)
wanted_raw T g (physical_text s) = unless (not (is_tab_verb T g)) 15 (asked_raw (halves_of (edition T)) (limit T g lower_cell) (limit T g upper_cell) (asks_by T g) (shape_of (kind T g)) (mask T g) s)

-- "21, 19": element i of group g may be written, and then the answer
unfoldable pub writable : {A : Type 0} → List ℕ → ℕ → ℕ → Answer A → Answer A
writable t g i a =
    unless (not (forbidden (tables_in t) g)) 21
    (unless (not (on_count t (place_of (tables_in t) g i) (place_of (tables_in t) g i + bytes (tables_in t) g))) 19 a)

-- "Write order: 20, 22, 14, 21, 19, ..": what is judged of the element, whatever is asked of it
unfoldable pub judged_element : {A : Type 0} → List ℕ → Lent → Bool → ℕ → ℕ → ℕ → Answer A → Answer A
judged_element t l enough o p i a = checked t l enough (unless (is_element (tables_in t) o p i) 14 (writable t (group_of o p) i a))

-- "Write order: .. 15, 16, 17, 18." and 16 "for the stored one after 17 and 18": the raw number that a request stores. No byte of the image is looked at.
unfoldable pub judged_request : List ℕ → Lent → Bool → Request → Answer ℤ
judged_request t l enough q = judged_element t l enough q.object q.part q.index (wanted_raw (tables_in t) (group_in q) q.wanted)

-- the image with a raw number stored in element i of group g
unfoldable pub stored : List ℕ → ℕ → ℕ → List ℕ → ℤ → List ℕ
stored t g i image z = written (first (tables_in t) g) (place_of (tables_in t) g i) (shape_of (kind (tables_in t) g)) (mask (tables_in t) g) z image

-- "An accepted write works out afresh every line that shares a byte with the element, whatever those lines held, and no other."
unfoldable pub written_to : List ℕ → ℕ → ℕ → Kept → ℤ → Kept
written_to t g i k z =
    refreshed (touched (tables_in t) (place_of (tables_in t) g i) (place_of (tables_in t) g i + bytes (tables_in t) g)) t (stored t g i k.image z) k

unfoldable pub writing : List ℕ → ℕ → ℕ → Kept → Request → After
writing t n base k q = afterwards (judged_request t (lent_by n base k) (has_room t k) q) k (written_to t (group_in q) q.index k)

-- line j of a list
abbrev pub line_at : Kept → ℕ → Line
line_at k j = record { raw = get_or k.raw j (pos 0); state = get_or k.state j 0; first = get_or k.first j (pos 0); second = get_or k.second j (pos 0) }

-- a list with another image
abbrev pub with_image : List ℕ → Kept → Kept
with_image image k = kept image k.raw k.state k.first k.second
