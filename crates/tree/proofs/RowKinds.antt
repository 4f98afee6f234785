-- The rows of the grammar by what they do to objects and to how many axes there are; tests that antt computes.
use Prim.Native.Nat.{ℕ, zero, suc}
use mathlib.Core.Path.{◌≡◌, refl}
use mathlib.Core.List.{List, [], ◌∷◌}
use mathlib.Core.Bool.{Bool, true, not, ◌&&◌, ◌||◌}
use mathlib.Core.Logic.{◌⊎◌, inl, inr}
use lib.Dec.{eqb}
use lib.ListN.{get_or}
use Rattle.text.proofs.Within.{and_left, and_right, or_case}
use Rattle.rows.specs.Codes.{AXIS-PTS, CHARACTERISTIC, AXIS-DESCR}
use Rattle.rows.specs.Sections.{none, object, axis}
use Rattle.rows.specs.Slots.{first_held, block_code, object_type, object_max_points, number_seen, axis_descr_seen}
use Rattle.rows.specs.Row.{opening, Row}
use Rattle.rows.specs.Rows.{rows}
use Rattle.facts.proofs.Moves.{wide_of}
use Rattle.facts.proofs.Tests.{every}
use Rattle.tree.specs.Tree.{Among}
use Rattle.tree.proofs.Shapes.{every-among}
use Rattle.tree.proofs.Leaves.{untouched, are_plain, is_named, holds, rest}
use Rattle.tree.proofs.InSection.{grows, leaves, fills}
use Rattle.tree.proofs.SlotLaws.{inside_test, alike_test}

abbrev all_true : List Bool → Bool
all_true [] = true
all_true (b ∷ bs) = b && all_true bs

-- test n of those that all hold
abbrev pub Facts : List Bool → Type 0
Facts bs = (n : ℕ) → get_or bs n true ≡ true

facts : (bs : List Bool) → all_true bs ≡ true → Facts bs
facts [] h n = refl
facts (b ∷ bs) h zero = and_left b (all_true bs) h
facts (b ∷ bs) h (suc n) = facts bs (and_right b (all_true bs) h) n

-- a block inside which an object's record is not finished
abbrev pub in_object : ℕ → Bool
in_object b = eqb b CHARACTERISTIC || eqb b AXIS-DESCR

-- the slots of an object that its block's end is about
abbrev pub end_slots : List ℕ
end_slots = block_code ∷ object_type ∷ number_seen ∷ axis_descr_seen ∷ []

-- its slots that only its own block writes
abbrev pub own_slots : List ℕ
own_slots = first_held ∷ block_code ∷ object_max_points ∷ []

-- a row that makes neither an object nor an axis
abbrev pub other_tests : Row → List Bool
other_tests r =
    inside_test in_object object r ∷ alike_test in_object object end_slots r ∷ every (leaves object r) own_slots ∷ not (grows object r) ∷ not (grows axis r) ∷ leaves object r axis_descr_seen ∷ []

-- an object's block
abbrev pub named_tests : Row → List Bool
named_tests r =
    inside_test in_object object r ∷ eqb r.adds none ∷ eqb r.sec object ∷ eqb r.once 0 ∷ is_named r.params ∷ eqb (holds r.params) axis ∷ untouched (rest r.params) first_held
    ∷ untouched (rest r.params) block_code ∷ (not (eqb r.word AXIS-PTS) || fills object r object_max_points) ∷ not (grows axis r) ∷ leaves object r axis_descr_seen ∷ eqb r.opens opening ∷ []

-- an axis's block
abbrev pub axis_tests : Row → List Bool
axis_tests r =
    inside_test in_object object r ∷ alike_test in_object object end_slots r ∷ every (leaves object r) own_slots ∷ eqb r.adds axis ∷ eqb r.sec object ∷ eqb r.once axis_descr_seen ∷ are_plain r.params ∷ []

abbrev row_test : Row → Bool
row_test r = all_true (other_tests r) || (all_true (named_tests r) || all_true (axis_tests r))

all_tested : every row_test rows ≡ true
unfolding rows wide_of
all_tested = refl

-- what kind of row it is
pub data Kind (r : Row) : Type 0 where
  is_other : Facts (other_tests r) → Kind r
  is_new : Facts (named_tests r) → Kind r
  is_axis : Facts (axis_tests r) → Kind r

pub kind-of : (r : Row) → Among r rows → Kind r
kind-of r m = first (or_case (all_true (other_tests r)) (all_true (named_tests r) || all_true (axis_tests r)) (every-among row_test rows all_tested r m)) where
  second : (all_true (named_tests r) ≡ true) ⊎ (all_true (axis_tests r) ≡ true) → Kind r
  second (inl t) = is_new (facts (named_tests r) t)
  second (inr t) = is_axis (facts (axis_tests r) t)

  first : (all_true (other_tests r) ≡ true) ⊎ ((all_true (named_tests r) || all_true (axis_tests r)) ≡ true) → Kind r
  first (inl t) = is_other (facts (other_tests r) t)
  first (inr t) = second (or_case (all_true (named_tests r)) (all_true (axis_tests r)) t)
