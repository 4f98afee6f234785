-- A token where a parameter is expected (document 01, "Words and numbers" and "Numbers we answer with").
use Rattle.std.specs.Prelude.{ℕ, zero, suc, ◌-◌, min, List, Bool, false, cond, not, ◌&&◌, ◌||◌, ltb, leb, eqb, Option, Some, None}
use Rattle.text.specs.Answer.{kind_number}
use Rattle.text.specs.Answer as piece
use Rattle.text.specs.Bytes.{same_part}
use Rattle.number.specs.Answer.{Answer, given, in_run}
use Rattle.number.specs.Answer as number
use Rattle.number.specs.Whole.{whole_of}
use Rattle.number.specs.Decimal.{Scaled, decimal_of}
use Rattle.number.specs.Form.{has_form}
use Rattle.convert.specs.Limit.{at_most}
use Rattle.words.specs.Kind as word
use Rattle.words.specs.Class.{class_at}
use Rattle.records.specs.Records.{most_of}
use Rattle.rows.specs.Sections.{sections, entry, table}
use Rattle.rows.specs.Kinds.{name_kind, string_kind, whole_kind, choice_kind, new_kind, points_kind, alignment_kind, nought_kind, upper_kind, pairs_kind, number_kind, text_kind}
use Rattle.rows.specs.Numbered.{param_at}
use Rattle.rows.specs.Slots.{own_name, own_name_past, first_held, entry_sign, entry_size, entry_text}
use Rattle.grammar.specs.Move.{View, current, decimal_slots, state, items, idle, writes, Move, went, refused}
use Rattle.grammar.specs.declared.state.State.{State}
use Rattle.grammar.specs.declared.state.Act.{Act}

-- the kinds of a piece, by their numbers
abbrev pub a_name : ℕ
a_name = kind_number piece.name

abbrev pub a_string : ℕ
a_string = kind_number piece.string

abbrev pub a_number : ℕ
a_number = kind_number piece.number

abbrev pub a_begin : ℕ
a_begin = kind_number piece.begin

abbrev pub an_end : ℕ
an_end = kind_number piece.end

-- "2: a number outside its form" goes before another refusal n of the piece of kind k from a up to e
unfoldable pub wrong : ℕ → List ℕ → ℕ → ℕ → ℕ → Move
wrong n x k a e = cond (eqb k a_number && not (has_form x a e)) (refused 2 a) (refused n a)

-- the parameter that is next: its kind, its slot, the parameter after it, the section of its slot, its least and greatest number
abbrev pub kind_of : State → ℕ
kind_of s = (param_at s.param).param.kind

abbrev pub slot_of : State → ℕ
slot_of s = (param_at s.param).param.slot

abbrev pub next_of : State → ℕ
next_of s = (param_at s.param).next

abbrev pub sec_of : State → ℕ
sec_of s = (param_at s.param).sec

abbrev pub low_of : State → ℕ
low_of s = (param_at s.param).param.low

abbrev pub high_of : State → ℕ
high_of s = (param_at s.param).param.high

-- the state after it
abbrev pub after : State → State
after s = state items s.block (next_of s) s.left

-- the parameter goes to its slot, where it has one: the first n of three numbers
unfoldable pub keeping : State → ℕ → ℕ → ℕ → ℕ → Act
keeping s n x y z = cond (eqb (slot_of s) 0) idle (writes (sec_of s) (slot_of s) n x y z)

-- the sign of a decimal as a number
abbrev pub sign_of : Scaled → ℕ
sign_of d = cond d.negative 1 0

-- ---- whole numbers

-- "MaxAxisPoints or NUMBER of 0 is 2", "MaxAxisPoints above 256 is 8", "Alignment words may set 1, 2, 4 or 8, else 2"
unfoldable pub taken_whole : State → ℕ → ℕ → ℕ → Move
taken_whole s a e n =
    cond (ltb n (low_of s)) (refused 2 a)
    (cond (eqb (kind_of s) points_kind && ltb 256 n) (refused 8 a)
    (cond (eqb (kind_of s) alignment_kind && not (eqb n 1 || eqb n 2 || eqb n 4 || eqb n 8)) (refused 2 a)
    (went e (after s) (keeping s 1 n 0 0))))

-- how many pairs follow, at most 65535; none: the block's keywords are next
unfoldable pub taken_pairs : State → ℕ → ℕ → Move
taken_pairs s e n =
    cond (eqb n 0) (went e (state items s.block 0 0) (keeping s 1 n 0 0))
    (went e (state items s.block (next_of s) (min n 65535)) (keeping s 1 n 0 0))

-- ---- decimals

-- the decimal in three slots of the current record
abbrev pub decimal_in : View → ℕ → ℕ → Scaled
decimal_in v j k = decimal_slots v j (v.counts j - 1) k

-- one of f entries from record i on has the number
unfoldable pub has_entry : ℕ → View → ℕ → ℕ → ℕ → Bool
has_entry zero v i sign size = false
has_entry (suc f) v i sign size = eqb (v.slots entry i entry_sign) sign && eqb (v.slots entry i entry_size) size || has_entry f v (suc i) sign size

-- an entry of the current table has the number; its entries are those from its first on
abbrev pub twice : View → ℕ → ℕ → Bool
twice v sign size = has_entry (v.counts entry - current v table first_held) v (current v table first_held) sign size

-- a record more in section j, which begins with the first n of four numbers
abbrev pub new_record : ℕ → ℕ → ℕ → ℕ → ℕ → ℕ → Act
new_record j n x y z u = record { adds = j; sec = j; slot = 0; many = n; a = x; b = y; c = z; d = u }

-- "An entry's number is whole in value, else 2; twice in a table is 6"; one too many is 8
unfoldable pub taken_entry : View → State → ℕ → ℕ → Scaled → Move
taken_entry v s a e d =
    cond (not (eqb d.tens 0)) (refused 2 a)
    (cond (twice v (sign_of d) d.whole) (refused 6 a)
    (cond (leb (most_of sections entry) (v.counts entry)) (refused 8 a)
    (went e (after s) (new_record entry 2 (sign_of d) d.whole 0 0))))

-- an entry's number; "a and d must be 0", else 9; "lower limit above upper" is 5
unfoldable pub taken_decimal : View → State → ℕ → ℕ → Scaled → Move
taken_decimal v s a e d =
    cond (eqb (kind_of s) number_kind) (taken_entry v s a e d)
    (cond (eqb (kind_of s) nought_kind && not (eqb d.whole 0)) (refused 9 a)
    (cond (eqb (kind_of s) upper_kind && not (at_most (decimal_in v (sec_of s) (slot_of s - 3)) d)) (refused 5 a)
    (went e (after s) (keeping s 3 (sign_of d) d.whole d.tens))))

-- what is made of a number that was read; "a number outside its form" is 2
abbrev pub of_number : {A : Type 0} → ℕ → Answer A → (A → Move) → Move
of_number a (given n) f = f n
of_number a (number.refused k) f = refused k a

-- how many pairs follow, a whole number, a decimal: read, and then judged
abbrev pub of_pairs : List ℕ → State → ℕ → ℕ → Move
of_pairs x s a e = of_number a (in_run (whole_of (high_of s)) x a e) (taken_pairs s e)

abbrev pub of_whole : List ℕ → State → ℕ → ℕ → Move
of_whole x s a e = of_number a (in_run (whole_of (high_of s)) x a e) (taken_whole s a e)

abbrev pub of_decimal : List ℕ → View → State → ℕ → ℕ → Move
of_decimal x v s a e = of_number a (in_run decimal_of x a e) (taken_decimal v s a e)

-- by the parameter's kind: how many pairs follow, a whole number, and any other is a decimal
unfoldable pub taken_number : List ℕ → View → State → ℕ → ℕ → Move
taken_number x v s a e =
    cond (eqb (kind_of s) pairs_kind) (of_pairs x s a e)
    (cond (eqb (kind_of s) whole_kind || eqb (kind_of s) points_kind || eqb (kind_of s) alignment_kind) (of_whole x s a e)
    (of_decimal x v s a e))

-- ---- names

-- what a search answers: the record's number plus one, 0 for none
abbrev pub found_at : Option ℕ → ℕ
found_at (Some i) = suc i
found_at None = 0

-- the first record of section j, from i on, whose name is the bytes from a up to e; its number plus one, 0 for none
unfoldable pub find_from : ℕ → List ℕ → View → ℕ → ℕ → ℕ → ℕ → ℕ
find_from zero x v j i a e = 0
find_from (suc f) x v j i a e = cond (same_part x (v.slots j i own_name) (v.slots j i own_name_past) x a e) (suc i) (find_from f x v j (suc i) a e)

abbrev pub find : List ℕ → View → ℕ → ℕ → ℕ → ℕ
find x v j a e = find_from (v.counts j) x v j 0 a e

-- "name twice among objects .., methods, tables or layouts each" is 6; one too many is 8
unfoldable pub taken_new : List ℕ → View → State → ℕ → ℕ → Move
taken_new x v s a e =
    cond (not (eqb (find x v (sec_of s) a e) 0)) (refused 6 a)
    (cond (leb (most_of sections (sec_of s)) (v.counts (sec_of s))) (refused 8 a)
    (went e (after s) (new_record (sec_of s) 4 a e (v.counts (slot_of s)) s.block)))

-- a choice: of the right range it is kept; "Every other .. choice word is refused: 9 if document 000 lists it, else 4", and 5 what document 01 takes elsewhere
abbrev pub of_choice : State → ℕ → ℕ → word.Kind → Move
of_choice s a e (word.taken_choice c) = cond (leb (low_of s) c && leb c (high_of s)) (went e (after s) (keeping s 1 c 0 0)) (refused 5 a)
of_choice s a e (word.taken_block c) = refused 5 a
of_choice s a e (word.taken_plain c) = refused 5 a
of_choice s a e (word.skipped_block c) = refused 5 a
of_choice s a e (word.skipped_plain c) = refused 5 a
of_choice s a e word.listed_only = refused 9 a
of_choice s a e word.unlisted = refused 4 a

-- a name by the parameter's kind: a new record's, a choice, and any other is kept
unfoldable pub taken_name : List ℕ → View → State → ℕ → ℕ → Move
taken_name x v s a e =
    cond (eqb (kind_of s) new_kind) (taken_new x v s a e)
    (cond (eqb (kind_of s) choice_kind) (of_choice s a e (class_at x a e))
    (went e (after s) (keeping s 2 a e 0)))

-- ---- texts

-- after a pair's text the next pair, or the block's keywords
abbrev pub after_text : State → State
after_text s = cond (ltb 1 s.left) (state items s.block (s.param - 1) (s.left - 1)) (state items s.block 0 0)

-- a pair's text goes to its entry, any other to its slot
unfoldable pub taken_text : State → ℕ → ℕ → Move
taken_text s a e =
    cond (eqb (kind_of s) text_kind) (went e (after_text s) (writes entry entry_text 2 a e 0))
    (went e (after s) (keeping s 2 a e 0))

-- ---- any piece: "parameter .. of the wrong kind" is 5

-- which kinds want a string, a name; the others want a number
abbrev pub wants_text : State → Bool
wants_text s = eqb (kind_of s) string_kind || eqb (kind_of s) text_kind

abbrev pub wants_name : State → Bool
wants_name s = eqb (kind_of s) name_kind || eqb (kind_of s) choice_kind || eqb (kind_of s) new_kind

unfoldable pub taken : List ℕ → View → State → ℕ → ℕ → ℕ → Move
taken x v s k a e =
    cond (wants_text s) (cond (eqb k a_string) (taken_text s a e) (wrong 5 x k a e))
    (cond (wants_name s) (cond (eqb k a_name) (taken_name x v s a e) (wrong 5 x k a e))
    (cond (eqb k a_number) (taken_number x v s a e) (refused 5 a)))
