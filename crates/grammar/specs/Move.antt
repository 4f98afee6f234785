-- What a token leads to: the next state and what is written into the records, or a refusal.
use Rattle.std.specs.Prelude.{ℕ, suc, ◌+◌, ◌-◌, min, List, [], ◌∷◌, take, eqb, Result, Ok, Err}
use Rattle.number.specs.Decimal.{Scaled}
use Rattle.records.specs.Records.{count, slot, put, add}
use Rattle.records.specs.Cells.{section_in, count_in, slot_in, put_in, add_in}
use Rattle.records.specs.declared.Section.{Section}
use Rattle.rows.specs.Sections.{sections, none}
use Rattle.text.specs.declared.cursor.Refusal.{Refusal}
use Rattle.grammar.specs.declared.state.State.{State}
use Rattle.grammar.specs.declared.state.Act.{Act}
use Rattle.grammar.specs.declared.state.Move as code
use Rattle.grammar.specs.declared.state.Move.TheVariants as variant

-- what can be asked of the records: how many a section has, and number k of record i of section j
pub record View : Type 0 where
  pub counts : ℕ → ℕ
  pub slots : ℕ → ℕ → ℕ → ℕ

-- the same of records as lists
abbrev pub view : List (List (List ℕ)) → View
view d = record { counts = count d; slots = slot d }

-- number k of the current record of section j, which is its last
abbrev pub current : View → ℕ → ℕ → ℕ
current v j k = v.slots j (v.counts j - 1) k

-- the decimal in three slots of record i of section j: 1 below zero, its whole number, its power of ten (which is at most 6)
abbrev pub decimal_slots : View → ℕ → ℕ → ℕ → Scaled
decimal_slots v j i k = record { negative = eqb (v.slots j i k) 1; whole = v.slots j i (k + 1); tens = min (v.slots j i (k + 2)) 7 }

-- the modes
abbrev pub items : ℕ
items = 0

abbrev pub begun : ℕ
begun = 1

abbrev pub ended : ℕ
ended = 2

abbrev pub finished : ℕ
finished = 3

abbrev pub state : ℕ → ℕ → ℕ → ℕ → State
state m b p l = record { mode = m; block = b; param = p; left = l }

-- nothing is written
abbrev pub idle : Act
idle = record { adds = none; sec = none; slot = 0; many = 0; a = 0; b = 0; c = 0; d = 0 }

-- n numbers from slot k on in the current record of section j
abbrev pub writes : ℕ → ℕ → ℕ → ℕ → ℕ → ℕ → Act
writes j k n x y z = record { adds = none; sec = j; slot = k; many = n; a = x; b = y; c = z; d = 0 }

-- the numbers that are written
abbrev pub values : Act → List ℕ
values a = take a.many (a.a ∷ a.b ∷ a.c ∷ a.d ∷ [])

-- numbers in record i of section j, from slot k on
abbrev pub puts : List (List (List ℕ)) → ℕ → ℕ → ℕ → List ℕ → List (List (List ℕ))
puts d j i k [] = d
puts d j i k (v ∷ vs) = puts (put d j i k v) j i (suc k) vs

-- a record more where there is one to be added (a section that is none has no room, so that nothing is added to it)
abbrev pub added : Act → List (List (List ℕ)) → List (List (List ℕ))
added a d = add sections d a.adds

-- that record, then the numbers that are written, in the current record
unfoldable pub applied : Act → List (List (List ℕ)) → List (List (List ℕ))
applied a d = puts (added a d) a.sec (count (added a d) a.sec - 1) a.slot (values a)

-- on to the place `next`, in a state, with what is written; the text is over; or a refusal
pub data Move : Type 0 where
  went : (next : ℕ) → State → Act → Move
  over : Move
  refused : (number place : ℕ) → Move

-- what the code's `Move` answers
abbrev pub moved : Result code.Move Refusal → Move
moved (Ok (variant.Went c s a)) = went c.at s a
moved (Ok variant.Over) = over
moved (Err r) = refused r.no r.place

-- ---- the same on cells

abbrev pub view_in : List ℕ → View
view_in t = record { counts = λ j. count_in t (section_in sections j); slots = λ j. slot_in t (section_in sections j) }

abbrev pub puts_in : List ℕ → Section → ℕ → ℕ → List ℕ → List ℕ
puts_in t c i k [] = t
puts_in t c i k (v ∷ vs) = puts_in (put_in t c i k v) c i (suc k) vs

abbrev pub added_in : Act → List ℕ → List ℕ
added_in a t = add_in t (section_in sections a.adds)

unfoldable pub applied_in : Act → List ℕ → List ℕ
applied_in a t = puts_in (added_in a t) (section_in sections a.sec) (count_in (added_in a t) (section_in sections a.sec) - 1) a.slot (values a)
