-- What the functions of the grammar answer.
use Rattle.std.specs.Prelude.{Result}
use Rattle.text.specs.declared.cursor.Refusal.{Refusal}
use Rattle.grammar.specs.declared.state.Move as code

-- a move, or a refusal
abbrev pub Answered : Type 0
Answered = Result code.Move Refusal
