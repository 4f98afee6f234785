-- From a data type's word to the size and sign of its numbers: through the table of words, the rows of the grammar and the shapes of cells.
--     six-types     each of the six words has a code whose shape has document 01's size and sign
--     type-word     and a word that a data type's parameter takes is one of the six
use Prim.Native.Nat.{ℕ, zero, suc, ◌≤◌, ◌<◌}
use Prim.Native.String.{String}
use mathlib.Core.Path.{◌≡◌, refl, ap}
use mathlib.Core.List.{List, [], ◌∷◌}
use mathlib.Core.Bool.{true, false}
use mathlib.Core.Logic.{inl, inr}
use native.Mathlib.Omega.{arith}
use Rattle.cell.specs.Kind.{shapes, shape_of}
use Rattle.words.specs.Kind.{taken_choice, choice_code}
use Rattle.words.specs.Row.{word, bytes, same, kind_in}
use Rattle.words.specs.Table.{word_rows}
use Rattle.words.specs.Class.{class_of}
use Rattle.words.proofs.Laws.{choice-one}
use Rattle.rows.specs.Codes.{UBYTE, SLONG}
use Rattle.demands.specs.Types.{DataType, data_types, Typed}

-- a word's code among the choices
abbrev pub choice_of : String → ℕ
choice_of s = choice_code (class_of (bytes s))

-- a type with the size and sign that the reader gives its word
abbrev pub given_to : List DataType → List DataType
given_to [] = []
given_to (t ∷ ts) = record { word = t.word; size = (shape_of (choice_of t.word)).bytes; signed = (shape_of (choice_of t.word)).signed } ∷ given_to ts

pub six-types : given_to data_types ≡ data_types
unfolding choice_code class_of kind_in same word_rows word bytes shape_of shapes
six-types = refl

-- a word with a type's code is that type's word
is_word : (s : String) (w : List ℕ) (c : ℕ) → 0 < c → choice_of s ≡ c → choice_code (class_of w) ≡ c → w ≡ bytes s
is_word s w c l e h = choice-one w (bytes s) c l h e

by_code : (w : List ℕ) (c : ℕ) → choice_code (class_of w) ≡ c → UBYTE ≤ c → c ≤ SLONG → Typed w (shape_of c)
unfolding choice_code class_of kind_in same word_rows word bytes shape_of shapes
by_code w zero h l m = absurd (omega arith)
by_code w (suc zero) h l m =
    record { of = record { word = "UBYTE"; size = 1; signed = false }; listed = inl refl; spelled = is_word "UBYTE" w 1 (omega arith) refl h; size = refl; sign = refl }
by_code w (suc (suc zero)) h l m =
    record { of = record { word = "SBYTE"; size = 1; signed = true }; listed = inr (inl refl); spelled = is_word "SBYTE" w 2 (omega arith) refl h; size = refl; sign = refl }
by_code w (suc (suc (suc zero))) h l m =
    record { of = record { word = "UWORD"; size = 2; signed = false }; listed = inr (inr (inl refl)); spelled = is_word "UWORD" w 3 (omega arith) refl h; size = refl; sign = refl }
by_code w (suc (suc (suc (suc zero)))) h l m =
    record { of = record { word = "SWORD"; size = 2; signed = true }; listed = inr (inr (inr (inl refl))); spelled = is_word "SWORD" w 4 (omega arith) refl h; size = refl; sign = refl }
by_code w (suc (suc (suc (suc (suc zero))))) h l m =
    record { of = record { word = "ULONG"; size = 4; signed = false }; listed = inr (inr (inr (inr (inl refl)))); spelled = is_word "ULONG" w 5 (omega arith) refl h; size = refl; sign = refl }
by_code w (suc (suc (suc (suc (suc (suc zero)))))) h l m =
    record { of = record { word = "SLONG"; size = 4; signed = true }; listed = inr (inr (inr (inr (inr (inl refl))))); spelled = is_word "SLONG" w 6 (omega arith) refl h; size = refl; sign = refl }
by_code w (suc (suc (suc (suc (suc (suc (suc c))))))) h l m = absurd (omega arith)

-- "Data types: UBYTE, SBYTE, UWORD, SWORD, ULONG, SLONG": a word that the rows take for a data type, from the code of UBYTE to that of SLONG
pub type-word : (w : List ℕ) (c : ℕ) → class_of w ≡ taken_choice c → UBYTE ≤ c → c ≤ SLONG → Typed w (shape_of c)
unfolding choice_code
type-word w c h l m = by_code w c (ap choice_code h) l m
