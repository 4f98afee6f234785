-- Words on both sides of each rule, and what is done with them.
use Prim.Native.String.{String}
use mathlib.Core.Path.{◌≡◌, refl}
use mathlib.Core.List.{List, [], ◌∷◌}
use Rattle.words.specs.Kind.{Kind, taken_block, taken_plain, taken_choice, skipped_block, skipped_plain, listed_only, unlisted, keyword_code, choice_code}
use Rattle.words.specs.Row.{word, bytes, same, kind_in}
use Rattle.words.specs.Table.{word_rows}
use Rattle.words.specs.Class.{class_of, class_at}

-- a text, and its class
data Case : Type 0 where
  case : String → Kind → Case

classes : List Case → List Kind
classes [] = []
classes (case s k ∷ cs) = class_of (bytes s) ∷ classes cs

wanted : List Case → List Kind
wanted [] = []
wanted (case s k ∷ cs) = k ∷ wanted cs

cases : List Case
cases =
    case "PROJECT" (taken_block 1)
    ∷ case "MEASUREMENT" (taken_block 10)
    ∷ case "READ_ONLY" (taken_plain 27)
    ∷ case "UBYTE" (taken_choice 1)
    ∷ case "COM_AXIS" (taken_choice 24)
    ∷ case "IF_DATA" (skipped_block 30)
    ∷ case "FORMAT" (skipped_plain 37)
    ∷ case "UNIT" listed_only
    ∷ case "FLOAT32_IEEE" listed_only
    ∷ case "RESERVED" listed_only
    ∷ case "AXIS_RESCALE_Y" listed_only
    ∷ case "VAR_SELECTION_CHARACTERISTIC" listed_only
    ∷ case "project" unlisted
    ∷ case "PROJEC" unlisted
    ∷ case "PROJECTS" unlisted
    ∷ case "NO_COMPU_METHOD" unlisted
    ∷ case "FOO" unlisted
    ∷ case "" unlisted
    ∷ []

class_cases : classes cases ≡ wanted cases
unfolding classes wanted cases class_of kind_in same word_rows word bytes
class_cases = refl

-- between two places, and past the end
inside : class_at (bytes "/begin MODULE x") 7 13 ≡ taken_block 2
unfolding class_at class_of kind_in same word_rows word bytes
inside = refl

outside : class_at (bytes "MODULE") 0 7 ≡ unlisted
unfolding class_at bytes
outside = refl

-- codes by their texts
codes : keyword_code (class_of (bytes "COMPU_VTAB")) ∷ keyword_code (class_of (bytes "UBYTE")) ∷ choice_code (class_of (bytes "UBYTE")) ∷ choice_code (class_of (bytes "LINEAR")) ∷ [] ≡ 5 ∷ 0 ∷ 1 ∷ 20 ∷ []
unfolding keyword_code choice_code class_of kind_in same word_rows word bytes
codes = refl
