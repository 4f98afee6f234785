-- Reading a description from its start, a token a step: "the text from the start, the first offence by place".
use Rattle.std.specs.Prelude.{ℕ, zero, suc, ◌+◌, List, cond, length, eqb}
use Rattle.text.specs.Answer.{Answer, given, Piece, piece, finish, kind_number}
use Rattle.text.specs.Answer as text
use Rattle.text.specs.Token.{next_token}
use Rattle.records.specs.Records.{add, empty}
use Rattle.rows.specs.Codes.{FILE}
use Rattle.rows.specs.Sections.{sections, file}
use Rattle.grammar.specs.Move.{View, view, state, items, begun, ended, finished, applied, Move, went, over, refused}
use Rattle.grammar.specs.Parameter.{wrong, taken}
use Rattle.grammar.specs.Keyword.{item, after_begin, after_end}
use Rattle.grammar.specs.declared.state.State.{State}

-- a piece, by what is expected; after PROJECT's end any is 3
unfoldable pub on_piece : List ℕ → View → State → ℕ → ℕ → ℕ → Move
on_piece x v s k a e =
    cond (eqb s.mode finished) (wrong 3 x k a e)
    (cond (eqb s.mode begun) (after_begin x v s k a e)
    (cond (eqb s.mode ended) (after_end x s k a e)
    (cond (eqb s.param 0) (item x v s k a e) (taken x v s k a e))))

-- the text's end: "text ends early" is 3 there
abbrev pub finishing : State → ℕ → Move
finishing s p = cond (eqb s.mode finished) over (refused 3 p)

abbrev pub on_token : List ℕ → View → State → Answer Piece → Move
on_token x v s (given (piece kind a e)) = on_piece x v s (kind_number kind) a e
on_token x v s (given (finish p)) = finishing s p
on_token x v s (text.refused n p) = refused n p

unfoldable pub move : List ℕ → View → State → ℕ → Move
move x v s k = on_token x v s (next_token x k)

-- what a move leads to
abbrev pub following : Move → List (List (List ℕ)) → (ℕ → State → List (List (List ℕ)) → Answer (List (List (List ℕ)))) → Answer (List (List (List ℕ)))
following (went e s a) d go = go e s (applied a d)
following over d go = given d
following (refused n p) d go = text.refused n p

-- at most f tokens; each takes a byte or more, so that one more than the bytes are enough
unfoldable pub read_from : ℕ → List ℕ → ℕ → State → List (List (List ℕ)) → Answer (List (List (List ℕ)))
read_from zero x k s d = text.refused 3 (length x)
read_from (suc f) x k s d = following (move x (view d) s k) d (read_from f x)

-- the file's record alone
unfoldable pub start : List (List (List ℕ))
start = add sections (empty sections) file

-- the records of a description, or the first offence
unfoldable pub read : List ℕ → Answer (List (List (List ℕ)))
read x = read_from (length x + 1) x 0 (state items FILE 0 0) start
