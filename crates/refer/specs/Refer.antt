-- References: "then references in text order (a reference that leads nowhere stops the load)", 7 at the reference's place.
use Rattle.std.specs.Prelude.{ℕ, zero, suc, ◌+◌, min, List, [], ◌∷◌, Bool, false, cond, ◌&&◌, ◌||◌, length, ltb, eqb, Result, Ok, Err}
use Rattle.text.specs.Answer.{Answer, given, refused}
use Rattle.text.specs.Bytes.{spells}
use Rattle.text.specs.declared.cursor.Refusal.{Refusal}
use Rattle.rows.specs.Codes.{AXIS-PTS, MEASUREMENT}
use Rattle.rows.specs.Sections.{method, table, layout, object, axis}
use Rattle.rows.specs.Slots.{block_code, compu_tab_ref, object_layout, object_conversion, object_input_quantity, axis_input_quantity, axis_conversion, axis_pts_ref}
use Rattle.grammar.specs.Move.{View}
use Rattle.grammar.specs.Parameter.{find}
use Rattle.refer.specs.declared.Row.{Row}

-- where a reference stands: the section and the slot of its name; what it must lead to: a record of a section, of a class where it is
-- not 0; and the word that stands for none (1 NO_COMPU_METHOD, 2 NO_INPUT_QUANTITY, 0 no such word)
abbrev pub row : ℕ → ℕ → ℕ → ℕ → ℕ → Row
row j k t c f = record { sec = j; slot = k; target = t; class = c; free = f }

-- "An input quantity is a MEASUREMENT or NO_INPUT_QUANTITY"; layouts, conversions, verbal tables; "COM_AXIS with AXIS_PTS_REF"
unfoldable pub inner_rows : List Row
inner_rows =
    row axis axis_input_quantity object MEASUREMENT 2
    ∷ row axis axis_conversion method 0 1
    ∷ row axis axis_pts_ref object AXIS-PTS 0
    ∷ row method compu_tab_ref table 0 0
    ∷ []

unfoldable pub reference_rows : List Row
reference_rows =
    row object object_layout layout 0 0
    ∷ row object object_conversion method 0 1
    ∷ row object object_input_quantity object MEASUREMENT 2
    ∷ inner_rows

-- the bytes from a up to e are the word that stands for none
unfoldable pub is_free : List ℕ → ℕ → ℕ → ℕ → Bool
is_free x f a e = eqb f 1 && spells x a e "NO_COMPU_METHOD" || eqb f 2 && spells x a e "NO_INPUT_QUANTITY"

-- the record that was found, its number plus one, is of the class
abbrev pub is_of : View → ℕ → ℕ → ℕ → Bool
is_of v j c zero = false
is_of v j c (suc i) = eqb c 0 || eqb (v.slots j i block_code) c

-- the name from a up to e leads somewhere
unfoldable pub leads : List ℕ → View → Row → ℕ → ℕ → Bool
leads x v r a e = is_free x r.free a e || is_of v r.target r.class (find x v r.target a e)

-- a reference that leads nowhere is 7 at its first byte
abbrev pub judged_reference : List ℕ → View → Row → ℕ → ℕ → Answer (Unit {0})
judged_reference x v r a e = cond (leads x v r a e) (given tt) (refused 7 a)

-- the place of record i's reference where it leads nowhere, and else the text's length; a reference that is not there has the end 0
unfoldable pub failing : List ℕ → View → Row → ℕ → ℕ
failing x v r i =
    cond (eqb (v.slots r.sec i (r.slot + 1)) 0 || leads x v r (v.slots r.sec i r.slot) (v.slots r.sec i (r.slot + 1)))
    (length x) (v.slots r.sec i r.slot)

-- the least of the records from i on
unfoldable pub least_from : ℕ → List ℕ → View → Row → ℕ → ℕ
least_from zero x v r i = length x
least_from (suc f) x v r i = min (failing x v r i) (least_from f x v r (suc i))

abbrev pub least_of : List ℕ → View → Row → ℕ
least_of x v r = least_from (v.counts r.sec) x v r 0

-- the first of all references, by place, that leads nowhere; the text's length where each leads somewhere
abbrev pub least_in : List ℕ → View → List Row → ℕ
least_in x v [] = length x
least_in x v (r ∷ rs) = min (least_of x v r) (least_in x v rs)

-- 7 at a place of the text; a place past it stops nothing
abbrev pub stopped : List ℕ → ℕ → Answer (Unit {0})
stopped x p = cond (ltb p (length x)) (refused 7 p) (given tt)

-- every reference leads somewhere, or 7 at the first that does not
unfoldable pub referred : List ℕ → View → Answer (Unit {0})
referred x v = stopped x (least_in x v reference_rows)

-- the earlier of two refusals, or the one that there is
abbrev pub sooner : Answer (Unit {0}) → Answer (Unit {0}) → Answer (Unit {0})
sooner (refused n p) (refused m q) = cond (ltb q p) (refused m q) (refused n p)
sooner (refused n p) (given u) = refused n p
sooner (given u) b = b

-- what the code answers
abbrev pub told_reference : Result (Unit {0}) Refusal → Answer (Unit {0})
told_reference (Ok u) = given tt
told_reference (Err r) = refused r.no r.place
