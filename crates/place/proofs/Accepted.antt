-- What an accepted object keeps: its elements lie inside the image, and the element total is kept.
use Prim.Native.Nat.{ℕ, ◌+◌, ◌≤◌}
use mathlib.Core.Path.{◌≡◌, refl}
use mathlib.Core.List.{List}
use mathlib.Core.Bool.{Bool, true, false, cond}
use borrow.Author.Tests.{leb-true}
use lib.Dec.{leb}
use Rattle.number.specs.Answer.{Answer, given, refused}
use Rattle.number.specs.Most.{most_elements}
use Rattle.place.specs.Judge.{elements_stored, all_inside, weighed, after, judged_object}
use Rattle.place.specs.Walk.{placement}
use Rattle.place.specs.declared.judge.Standing.{Standing}
use Rattle.place.specs.declared.order.Layout.{Layout}
use Rattle.place.specs.declared.rules.Need.{Need}
use Rattle.place.specs.declared.walk.Ground.{Ground}
use Rattle.place.specs.declared.walk.Places.{Places}
use Rattle.place.specs.declared.walk.Reached.{Reached}

module _ (image : List ℕ) (base : ℕ) (n : Need) (l : Layout) (used : ℕ) where
  -- what an answer keeps; a refusal keeps nothing
  abbrev pub Kept : Answer Standing → Type 0
  Kept (given s) = (all_inside image base n l s.places ≡ true) × (s.total ≡ used + elements_stored n s.places) × (s.total ≤ most_elements)
  Kept (refused k) = Unit {0}

  kept-turn : (p : Places) (a b : Bool) → leb (used + elements_stored n p) most_elements ≡ a → all_inside image base n l p ≡ b
      → Kept (cond a (cond b (given (record { places = p; total = used + elements_stored n p })) (refused 12)) (refused 8))
  kept-turn p true true e f = (f, refl, leb-true (used + elements_stored n p) most_elements e)
  kept-turn p true false e f = tt
  kept-turn p false b e f = tt

  pub weighed-keeps : (p : Places) → Kept (weighed image base n l used p)
  unfolding weighed
  weighed-keeps p = kept-turn p (leb (used + elements_stored n p) most_elements) (all_inside image base n l p) refl refl

module _ (image : List ℕ) (g : Ground) (n : Need) (l : Layout) (used : ℕ) where
  after-keeps : (a : Answer Reached) → Kept image g.base n l used (after image g n l used a)
  after-keeps (given s) = weighed-keeps image g.base n l used s.places
  after-keeps (refused k) = tt

  -- an accepted object's elements lie inside the image, and with the objects before it there are at most 4,096
  pub judged-keeps : Kept image g.base n l used (judged_object image g n l used)
  unfolding judged_object
  judged-keeps = after-keeps (placement g n image l)
