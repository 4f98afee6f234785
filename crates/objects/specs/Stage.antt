-- The last stage of a load: ".. in text order, an AXIS_PTS named by COM_AXIS being judged before the object that names it."
use Rattle.std.specs.Prelude.{ℕ, zero, suc, ◌≡◌, List, [], ◌∷◌, ◌++◌, Bool, cond, ◌&&◌, eqb, ltb, get_or, set, replicate, Result, Ok, Err}
use Rattle.text.specs.Answer.{Answer, given, refused, with}
use Rattle.text.specs.declared.cursor.Refusal.{Refusal}
use Rattle.number.specs.Answer as number
use Rattle.number.specs.Most.{most_objects}
use Rattle.rows.specs.Codes.{COM-AXIS}
use Rattle.rows.specs.Sections.{object, axis}
use Rattle.rows.specs.Slots.{own_name, axis_descr_seen, axis_attribute}
use Rattle.grammar.specs.Move.{View}
use Rattle.place.specs.declared.judge.Standing.{Standing}
use Rattle.objects.specs.Object.{axis_at, shared_by, judge_object}

-- object i has so many AXIS_DESCR, and k is a COM_AXIS
unfoldable pub names : View → ℕ → ℕ → Bool
names v i k = ltb k (v.slots object i axis_descr_seen) && eqb (v.slots axis (axis_at v i k) axis_attribute) COM-AXIS

-- the AXIS_PTS that AXIS_DESCR k of object i names
unfoldable pub named : List ℕ → View → ℕ → ℕ → List ℕ
named x v i k = cond (names v i k) (shared_by x v (axis_at v i k) ∷ []) []

-- object i's turn: those that it names, x's and then y's, and itself
abbrev pub turns_of : List ℕ → View → ℕ → List ℕ
turns_of x v i = named x v i 0 ++ (named x v i 1 ++ (i ∷ []))

-- the turns of the objects from i on, in text order
unfoldable pub turns_from : ℕ → List ℕ → View → ℕ → List ℕ
turns_from zero x v i = []
turns_from (suc f) x v i = turns_of x v i ++ turns_from f x v (suc i)

-- "in the last two stages the method's or object's name": a judgement with its place; how many elements there are from here on
abbrev pub total_or : ℕ → number.Answer Standing → Answer ℕ
total_or p (number.given s) = given s.total
total_or p (number.refused n) = refused n p

-- an object is judged at its first turn: seen has a 1 for each that was
abbrev pub marked : List ℕ → ℕ → List ℕ
marked seen i = cond (eqb (get_or seen i 0) 0) (set seen i 1) seen

module _ (image : List ℕ) (base : ℕ) (x : List ℕ) (v : View) where
  unfoldable pub turn : List ℕ → ℕ → ℕ → Answer ℕ
  turn seen i used = cond (eqb (get_or seen i 0) 0) (total_or (v.slots object i own_name) (judge_object image base x v i used)) (given used)

  -- turn after turn; the first refusal stays
  unfoldable pub judge_each : List ℕ → List ℕ → ℕ → Answer ℕ
  judge_each seen [] used = given used
  judge_each seen (i ∷ is) used = with (turn seen i used) (judge_each (marked seen i) is)

  -- the turns of is, after which there are so many elements, or a refusal, and seen' has a 1 for each that was judged: to go on from there
  -- with any others is to take these turns and the others
  pub record Goes (seen is : List ℕ) (used : ℕ) (r : Answer ℕ) (seen' : List ℕ) : Type 0 where
    pub on : (rest : List ℕ) → with r (judge_each seen' rest) ≡ judge_each seen (is ++ rest) used

  -- all objects: how many elements they have, or the first refusal
  unfoldable pub judge_all : Answer ℕ
  judge_all = judge_each (replicate most_objects 0) (turns_from (v.counts object) x v 0) 0

-- what a turn answers in the code: how many elements there are from here on, or the first refusal
abbrev pub told_turn : Result ℕ Refusal → Answer ℕ
told_turn (Ok n) = given n
told_turn (Err r) = refused r.no r.place
