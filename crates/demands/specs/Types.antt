-- "Data types: UBYTE, SBYTE, UWORD, SWORD, ULONG, SLONG"; "bytes 1, words 2, longs 4, signed in two's complement".
use Rattle.std.specs.Prelude.{ℕ, ◌≡◌, List, [], ◌∷◌, Bool, true, false}
use Prim.Native.String.{String}
use Rattle.words.specs.Row.{bytes}
use Rattle.cell.specs.declared.kind.Shape.{Shape}
use Rattle.tree.specs.Tree.{Among}

-- a word, how many bytes a number of it takes, and whether it is signed
pub record DataType : Type 0 where
  pub word : String
  pub size : ℕ
  pub signed : Bool

abbrev typed : String → ℕ → Bool → DataType
typed w n s = record { word = w; size = n; signed = s }

abbrev pub data_types : List DataType
data_types =
    typed "UBYTE" 1 false
    ∷ typed "SBYTE" 1 true
    ∷ typed "UWORD" 2 false
    ∷ typed "SWORD" 2 true
    ∷ typed "ULONG" 4 false
    ∷ typed "SLONG" 4 true
    ∷ []

-- the word w is a data type's, and numbers of that type have the size and sign of s
pub record Typed (w : List ℕ) (s : Shape) : Type 0 where
  pub of : DataType
  pub listed : Among of data_types
  pub spelled : w ≡ bytes of.word
  pub size : s.bytes ≡ of.size
  pub sign : s.signed ≡ of.signed
