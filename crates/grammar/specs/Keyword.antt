-- A token where a keyword is expected: bare, after `/begin`, after `/end` (document 01, "What the reader takes" and "Numbers we answer with").
use Rattle.std.specs.Prelude.{ℕ, zero, suc, ◌+◌, ◌-◌, List, Bool, true, cond, not, ◌&&◌, ◌||◌, length, ltb, leb, eqb}
use Rattle.text.specs.Answer.{Answer, given}
use Rattle.text.specs.Answer as piece
use Rattle.text.specs.Skip.{skip_block}
use Rattle.words.specs.Kind as word
use Rattle.words.specs.Class.{class_at}
use Rattle.rows.specs.Codes.{FILE, ANY, PROJECT, MODULE, CHARACTERISTIC, AXIS-DESCR, CURVE, MAP}
use Rattle.rows.specs.Sections.{object, axis}
use Rattle.rows.specs.Slots.{object_type}
use Rattle.rows.specs.Rows.{rows, needed}
use Rattle.rows.specs.Numbered.{row_at, first_param, need_at}
use Rattle.rows.specs.Row.{outside}
use Rattle.grammar.specs.Move.{View, current, state, items, begun, ended, finished, idle, Move, went, refused}
use Rattle.grammar.specs.Parameter.{wrong, a_name, a_begin, an_end}
use Rattle.grammar.specs.declared.state.State.{State}
use Rattle.grammar.specs.declared.state.Act.{Act}

-- the first row from i on, of f rows, of the word w in the block b; the row past them where there is none
unfoldable pub row_from : ℕ → ℕ → ℕ → ℕ → ℕ
row_from zero i b w = i
row_from (suc f) i b w = cond (eqb (row_at i).parent b && eqb (row_at i).word w) i (row_from f (suc i) b w)

unfoldable pub row_of : ℕ → ℕ → ℕ
row_of b w = row_from (length rows) 0 b w

abbrev pub is_row : ℕ → Bool
is_row i = ltb i (length rows)

-- number n of section j's current record is from low to high (n 0: always)
abbrev pub is_within : View → ℕ → ℕ → ℕ → ℕ → Bool
is_within v j n low high = eqb n 0 || leb low (current v j n) && leb (current v j n) high

-- how often the keyword of row i was there, by its counting slot in the current record
abbrev pub seen : View → ℕ → ℕ
seen v i = current v (row_at i).sec (row_at i).once

-- "an unused conversion word, NUMBER or AXIS_PTS_REF" where this is false: the keyword of row i may stand by what the current record says
abbrev pub may_stand : View → ℕ → Bool
may_stand v i = is_within v (row_at i).sec (row_at i).when (row_at i).low (row_at i).high

-- how many AXIS_DESCR a CHARACTERISTIC's type has ("VALUE, VAL_BLK none")
abbrev pub axes_of : ℕ → ℕ
axes_of type = cond (eqb type MAP) 2 (cond (eqb type CURVE) 1 0)

-- how often the keyword of row i may stand: no "more AXIS_DESCR than the type has"; any other once
abbrev pub limit_of : View → ℕ → ℕ
limit_of v i = cond (eqb (row_at i).adds axis) (axes_of (current v object object_type)) 1

-- "once-only keyword twice; more AXIS_DESCR than the type has": the keyword of row i, where it is counted, was there as often as it may stand
abbrev pub is_often : View → ℕ → Bool
is_often v i = not (eqb (row_at i).once 0) && leb (limit_of v i) (seen v i)

-- one more, as far as a keyword is counted (none stands more than twice)
unfoldable pub one_more : ℕ → ℕ
one_more n = cond (ltb n 255) (n + 1) 255

-- where the keyword of row i is counted: one more, and a record more where the row says so
abbrev pub counting : View → ℕ → Act
counting v i =
    cond (eqb (row_at i).once 0) idle
    (record { adds = (row_at i).adds; sec = (row_at i).sec; slot = (row_at i).once; many = 1; a = one_more (seen v i); b = 0; c = 0; d = 0 })

-- the keyword of row i, from a up to e: where it may stand, its parameters are next, and the block is then `inner`
unfoldable pub stands : View → ℕ → ℕ → ℕ → ℕ → Move
stands v i inner a e =
    cond (not (may_stand v i)) (refused 5 a)
    (cond (is_often v i) (refused 6 a)
    (went e (state items inner (first_param i) 0) (counting v i)))

-- ---- a bare word

-- a keyword that opens no block: "misplaced" is 5, and 9 where its row says so ("BYTE_ORDER inside AXIS_DESCR is 9")
unfoldable pub plain_row : View → State → ℕ → ℕ → ℕ → Move
plain_row v s i a e =
    cond (not (is_row i)) (refused 5 a)
    (cond (eqb (row_at i).opens outside) (refused 9 a)
    (stands v i s.block a e))

-- the block whose rows have the keywords that are skipped: one for every block, and one for "the two versions also before PROJECT"
abbrev pub home_of : ℕ → ℕ
home_of b = cond (eqb b FILE) FILE ANY

abbrev pub bare_word : View → State → ℕ → ℕ → word.Kind → Move
bare_word v s a e (word.taken_plain c) = plain_row v s (row_of s.block c) a e
bare_word v s a e (word.skipped_plain c) = plain_row v s (row_of (home_of s.block) c) a e
bare_word v s a e (word.taken_block c) = refused 5 a
bare_word v s a e (word.taken_choice c) = refused 5 a
bare_word v s a e (word.skipped_block c) = refused 5 a
bare_word v s a e word.listed_only = refused 9 a
bare_word v s a e word.unlisted = refused 4 a

-- ---- the word after `/begin`

-- how deep the block b stands, "counting PROJECT as one"
abbrev pub depth_of : ℕ → ℕ
depth_of b = cond (eqb b PROJECT) 1 (cond (eqb b MODULE) 2 (cond (eqb b AXIS-DESCR) 4 3))

-- how many levels a block inside the block b may still hold: "at most sixteen deep" in all
abbrev pub levels_in : ℕ → ℕ
levels_in b = 15 - depth_of b

abbrev pub of_skip : State → Answer ℕ → Move
of_skip s (given e) = went e (state items s.block 0 0) idle
of_skip s (piece.refused n p) = refused n p

unfoldable pub skips : List ℕ → State → ℕ → ℕ → Move
skips x s a e = cond (eqb s.block FILE) (refused 5 a) (of_skip s (skip_block (levels_in s.block) x a e))

unfoldable pub opens : View → State → ℕ → ℕ → ℕ → Move
opens v s c a e = cond (not (is_row (row_of s.block c))) (refused 5 a) (stands v (row_of s.block c) c a e)

abbrev pub begun_word : List ℕ → View → State → ℕ → ℕ → word.Kind → Move
begun_word x v s a e (word.taken_block c) = opens v s c a e
begun_word x v s a e (word.skipped_block c) = skips x s a e
begun_word x v s a e (word.taken_plain c) = refused 5 a
begun_word x v s a e (word.taken_choice c) = refused 5 a
begun_word x v s a e (word.skipped_plain c) = refused 5 a
begun_word x v s a e word.listed_only = refused 9 a
begun_word x v s a e word.unlisted = refused 4 a

-- ---- `/end`, and the word after it

-- need i is met in the block b: it is another block's, or the current record does not ask for it, or it is there often enough
abbrev pub is_met : View → ℕ → ℕ → Bool
is_met v b i =
    not (eqb (need_at i).block b)
    || not (is_within v (need_at i).sec (need_at i).when (need_at i).low (need_at i).high)
    || leb (need_at i).least (current v (need_at i).sec (need_at i).slot)

-- so many needs from i on are met
unfoldable pub all_met : ℕ → View → ℕ → ℕ → Bool
all_met zero v b i = true
all_met (suc f) v b i = is_met v b i && all_met f v b (suc i)

-- "parameter or needed keyword missing": at the block's `/end`; with nothing open `/end` is 3
unfoldable pub ends : View → State → ℕ → ℕ → Move
ends v s a e =
    cond (eqb s.block FILE) (refused 3 a)
    (cond (all_met (length needed) v s.block 0) (went e (state ended s.block 0 0) idle) (refused 5 a))

-- the block that holds b
abbrev pub holder_of : ℕ → ℕ
holder_of b = cond (eqb b PROJECT) FILE (cond (eqb b MODULE) PROJECT (cond (eqb b AXIS-DESCR) CHARACTERISTIC MODULE))

-- the block's end, by its word up to e: PROJECT's end is the text's, and after any other its holder's keywords are next
abbrev pub closes : State → ℕ → ℕ → Move
closes s a e = cond (eqb s.block PROJECT) (went e (state finished FILE 0 0) idle) (went e (state items (holder_of s.block) 0 0) idle)

-- "begin and end don't match" is 3
abbrev pub ended_word : State → ℕ → ℕ → word.Kind → Move
ended_word s a e (word.taken_block c) = cond (eqb c s.block) (closes s a e) (refused 3 a)
ended_word s a e (word.taken_plain c) = refused 3 a
ended_word s a e (word.taken_choice c) = refused 3 a
ended_word s a e (word.skipped_block c) = refused 3 a
ended_word s a e (word.skipped_plain c) = refused 3 a
ended_word s a e word.listed_only = refused 3 a
ended_word s a e word.unlisted = refused 3 a

-- ---- any piece, by the mode

unfoldable pub item : List ℕ → View → State → ℕ → ℕ → ℕ → Move
item x v s k a e =
    cond (eqb k a_name) (bare_word v s a e (class_at x a e))
    (cond (eqb k a_begin) (went e (state begun s.block 0 0) idle)
    (cond (eqb k an_end) (ends v s a e)
    (wrong 5 x k a e)))

unfoldable pub after_begin : List ℕ → View → State → ℕ → ℕ → ℕ → Move
after_begin x v s k a e = cond (eqb k a_name) (begun_word x v s a e (class_at x a e)) (wrong 5 x k a e)

unfoldable pub after_end : List ℕ → State → ℕ → ℕ → ℕ → Move
after_end x s k a e = cond (eqb k a_name) (ended_word s a e (class_at x a e)) (wrong 3 x k a e)
