-- A part that the layout has not changes nothing, wherever it stands; a part among such ones is one step.
use Prim.Native.Nat.{ℕ}
use mathlib.Core.Path.{◌≡◌, refl, ◌∙◌, ap}
use mathlib.Core.List.{List, [], ◌∷◌}
use mathlib.Core.Bool.{Bool, true, false, cond}
use lib.Dec.{ltb}
use Rattle.number.specs.Answer.{Answer, given, refused}
use Rattle.place.specs.Order.{insert, in_order}
use Rattle.place.specs.Walk.{step, all_placed}
use Rattle.place.specs.declared.order.Part.{Part}
use Rattle.place.specs.declared.rules.Need.{Need}
use Rattle.place.specs.declared.walk.Ground.{Ground}
use Rattle.place.specs.declared.walk.Reached.{Reached}

-- the layout has none of these parts
abbrev pub Absent : List Part → Type 0
Absent [] = Unit {0}
Absent (p ∷ ps) = (p.entry.present ≡ false) × Absent ps

absent-turn : (t : Bool) (p q : Part) (qs rs : List Part) → p.entry.present ≡ false → Absent (q ∷ qs) → Absent rs → Absent (cond t (p ∷ q ∷ qs) (q ∷ rs))
absent-turn true p q qs rs h a b = (h, a)
absent-turn false p q qs rs h a b = (a.0, b)

absent-insert : (p : Part) (qs : List Part) → p.entry.present ≡ false → Absent qs → Absent (insert p qs)
unfolding insert
absent-insert p [] h a = (h, a)
absent-insert p (q ∷ qs) h a = absent-turn (ltb p.entry.position q.entry.position) p q qs (insert p qs) h a (absent-insert p qs h a.1)

pub absent-order : (ps : List Part) → Absent ps → Absent (in_order ps)
unfolding in_order
absent-order [] a = a
absent-order (p ∷ ps) a = absent-insert p (in_order ps) a.0 (absent-order ps a.1)

module _ (g : Ground) (n : Need) (image : List ℕ) where
  step-absent : (s : Answer Reached) (p : Part) → p.entry.present ≡ false → step g n image s p ≡ s
  step-absent (given s) p h = rw h
  step-absent (refused k) p h = refl

  front-absent : (s : Answer Reached) (p : Part) (ps : List Part) → p.entry.present ≡ false → all_placed g n image s (p ∷ ps) ≡ all_placed g n image s ps
  unfolding all_placed
  front-absent s p ps h = ap (λ r. all_placed g n image r ps) (step-absent s p h)

  all-absent : (s : Answer Reached) (ps : List Part) → Absent ps → all_placed g n image s ps ≡ s
  unfolding all_placed
  all-absent s [] a = refl
  all-absent s (p ∷ ps) a = front-absent s p ps a.0 ∙ all-absent s ps a.1

  past-turn : (t : Bool) (s : Answer Reached) (p q : Part) (qs rs : List Part) → p.entry.present ≡ false
      → all_placed g n image s (q ∷ rs) ≡ all_placed g n image s (q ∷ qs) → all_placed g n image s (cond t (p ∷ q ∷ qs) (q ∷ rs)) ≡ all_placed g n image s (q ∷ qs)
  past-turn true s p q qs rs h e = front-absent s p (q ∷ qs) h
  past-turn false s p q qs rs h e = e

  -- an absent part put anywhere changes nothing
  pub past-absent : (s : Answer Reached) (p : Part) (qs : List Part) → p.entry.present ≡ false → all_placed g n image s (insert p qs) ≡ all_placed g n image s qs
  unfolding insert all_placed
  past-absent s p [] h = front-absent s p [] h
  past-absent s p (q ∷ qs) h = past-turn (ltb p.entry.position q.entry.position) s p q qs (insert p qs) h (past-absent (step g n image s q) p qs h)

  among-turn : (t : Bool) (s : Answer Reached) (p q : Part) (qs rs : List Part) → Absent (q ∷ qs) → all_placed g n image s rs ≡ step g n image s p
      → all_placed g n image s (cond t (p ∷ q ∷ qs) (q ∷ rs)) ≡ step g n image s p
  unfolding all_placed
  among-turn true s p q qs rs a e = all-absent (step g n image s p) (q ∷ qs) a
  among-turn false s p q qs rs a e = front-absent s q rs a.0 ∙ e

  -- a part put among absent ones is one step
  pub among-absent : (s : Answer Reached) (p : Part) (qs : List Part) → Absent qs → all_placed g n image s (insert p qs) ≡ step g n image s p
  unfolding insert all_placed
  among-absent s p [] a = refl
  among-absent s p (q ∷ qs) a = among-turn (ltb p.entry.position q.entry.position) s p q qs (insert p qs) a (among-absent s p qs a.1)
