-- What reading a description into lent cells answers and leaves.
use Rattle.std.specs.Prelude.{ℕ, zero, suc, ◌+◌, List, cond, length, replicate, ltb, Result, Ok, Err}
use Rattle.text.specs.Answer.{Answer, given}
use Rattle.text.specs.Answer as text
use Rattle.records.specs.Cells.{room, encode, section_in, add_in}
use Rattle.rows.specs.Codes.{FILE}
use Rattle.rows.specs.Sections.{sections, file}
use Rattle.grammar.specs.Move.{view_in, state, items, applied_in, Move, went, over, refused}
use Rattle.grammar.specs.Read.{move, read}
use Rattle.grammar.specs.declared.state.State.{State}
use Rattle.text.specs.declared.cursor.Refusal.{Refusal}

-- accepted, or a refusal's number and place; and what the cells hold
pub record Out : Type 0 where
  pub answer : Answer (Unit {0})
  pub cells : List ℕ

abbrev pub accepted : List ℕ → Out
accepted t = record { answer = given tt; cells = t }

abbrev pub refusing : ℕ → ℕ → List ℕ → Out
refusing n p t = record { answer = text.refused n p; cells = t }

-- what a reading answers, beside the cells
abbrev pub out_of : Result (Unit {0}) Refusal → List ℕ → Out
out_of (Ok u) t = accepted t
out_of (Err r) t = refusing r.no r.place t

-- an accepted description leaves its records in the cells, a refused one zeros
abbrev pub left : ℕ → Answer (List (List (List ℕ))) → Out
left n (given d) = accepted (encode sections n d)
left n (text.refused k p) = refusing k p (replicate n 0)

-- "20: a lent buffer is too short", place 0, untouched
unfoldable pub read_into : List ℕ → List ℕ → Out
read_into x t = cond (ltb (length t) (room sections)) (refusing 20 0 t) (left (length t) (read x))

-- ---- the same a token a step on the cells, for the function that loops

abbrev pub following_in : Move → List ℕ → (ℕ → State → List ℕ → Out) → Out
following_in (went e s a) t go = go e s (applied_in a t)
following_in over t go = accepted t
following_in (refused n p) t go = refusing n p t

unfoldable pub read_from_in : ℕ → List ℕ → ℕ → State → List ℕ → Out
read_from_in zero x k s t = refusing 3 (length x) t
read_from_in (suc f) x k s t = following_in (move x (view_in t) s k) t (read_from_in f x)

unfoldable pub read_in : List ℕ → List ℕ → Out
read_in x t = read_from_in (length x + 1) x 0 (state items FILE 0 0) (add_in t (section_in sections file))
