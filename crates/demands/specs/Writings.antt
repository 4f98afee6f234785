-- What a physical write to an element of an accepted load stores.
use Rattle.std.specs.Prelude.{ℕ, ◌≡◌, List, ℤ}
use Rattle.number.specs.Answer.{given}
use Rattle.cell.specs.Kind.{shape_of}
use Rattle.convert.specs.declared.method.Coefficients.{Coefficients}
use Rattle.grammar.specs.Move.{View}
use Rattle.place.specs.declared.order.Layout.{Layout}
use Rattle.keeps.specs.Stands.{Part, number_of, type_of}
use Rattle.look.specs.Calls.{lent_by, Reading, reading, Kept}
use Rattle.demands.specs.Nearest.{Nearest, InLimits}
use Rattle.demands.specs.Standing.{part_mask, conversion_from, conversion_past, part_lower, part_upper}
use Rattle.demands.specs.Value.{CoefficientsBy}

-- the text s was written to element j of part p of object i of the description x, of an edition, by the layout l; what is kept then is `after`, with tables t
-- for a description of n bytes and a base address
pub record Stored (edition : ℕ) (x : List ℕ) (v : View) (i : ℕ) (l : Layout) (p : Part) (j : ℕ) (s : List ℕ) (t : List ℕ) (n base : ℕ) (after : Kept) : Type 0 where
  -- "the whole number nearest to what the conversion asks, by the edition's rule on halves"
  pub raw : ℤ
  pub coefficients : Coefficients
  pub by : CoefficientsBy x v (conversion_from x v i p) (conversion_past x v i p) coefficients
  pub nearest : Nearest edition (part_lower x v i p) (part_upper x v i p) coefficients (shape_of (type_of l p)) (part_mask x v i p) s raw
  -- the element then reads as that
  pub answer : Reading
  pub is_read : reading t after.image (lent_by n base after) i (number_of p) j ≡ given answer
  pub is_raw : answer.raw ≡ raw
  -- "A limit is for what gets stored.": as a number within the element's limits
  pub is_limited : InLimits (part_lower x v i p) (part_upper x v i p) answer.value
