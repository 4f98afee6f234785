-- A layout's only part, its values or its x points, stands at the object's address, and it needs no order.
use Prim.Native.Nat.{ℕ}
use mathlib.Core.Path.{◌≡◌, refl, ◌∙◌}
use mathlib.Core.List.{List, [], ◌∷◌}
use mathlib.Core.Bool.{Bool, true, false, ◌&&◌, ◌||◌}
use borrow.Author.Rules.{rules}
use Rattle.number.specs.Answer.{Answer, given}
use Rattle.place.specs.Order.{in_order, parts}
use Rattle.place.specs.Walk.{place_one, step, all_placed, start}
use Rattle.place.specs.declared.order.Layout.{Layout}
use Rattle.place.specs.declared.order.Role.TheVariants.{Values, PointsX, PointsY, CountX, CountY}
use Rattle.place.specs.declared.order.Part.{Part}
use Rattle.place.specs.declared.rules.Need.{Need}
use Rattle.place.specs.declared.walk.Ground.{Ground}
use Rattle.place.specs.declared.walk.Reached.{Reached}
use Rattle.place.proofs.Absent.{Absent, absent-order, past-absent, among-absent}

none : (a b c d : Bool) → (a || b || c || d) ≡ false → (a ≡ false) × (b ≡ false) × (c ≡ false) × (d ≡ false)
none true b c d h = (h, cc, cc, cc)
none false true c d h = (refl, h, cc, cc)
none false false true d h = (refl, refl, h, cc)
none false false false d h = (refl, refl, refl, h)

-- the parts after the values and the x points
abbrev later : Layout → List Part
later l = record { role = PointsY; entry = l.y } ∷ record { role = CountX; entry = l.nx } ∷ record { role = CountY; entry = l.ny } ∷ []

module _ (g : Ground) (n : Need) (image : List ℕ) (l : Layout) (o : Reached)
    (h : (l.values.present && l.x.present || l.y.present || l.nx.present || l.ny.present) ≡ false) (e : o ≡ start g n) where
  absent : (l.values.present && l.x.present ≡ false) × Absent (later l)
  absent = let a = none (l.values.present && l.x.present) l.y.present l.nx.present l.ny.present h in (a.0, (a.1, (a.2, (a.3, tt))))

  module _ (v : l.values.present ≡ true) where
    values-step : all_placed g n image (given (start g n)) (in_order (parts l)) ≡ step g n image (given (start g n)) (record { role = Values; entry = l.values })
    unfolding in_order parts
    values-step =
        let x : l.x.present ≡ false = rw v at absent.0 in
        among-absent g n image _ _ _ (absent-order (record { role = PointsX; entry = l.x } ∷ later l) (x, absent.1))

    -- its step is place_one's
    pub values-only : (r : Answer Reached) → r ≡ place_one g n image o (record { role = Values; entry = l.values }) → r ≡ all_placed g n image (given (start g n)) (in_order (parts l))
    values-only r f = rw (f, e, values-step, v)

  module _ (v : l.values.present ≡ false) where
    x-step : all_placed g n image (given (start g n)) (in_order (parts l)) ≡ step g n image (given (start g n)) (record { role = PointsX; entry = l.x })
    unfolding in_order parts
    x-step = past-absent g n image _ _ _ v ∙ among-absent g n image _ _ _ (absent-order (later l) absent.1)

    pub x-only : (r : Answer Reached) → r ≡ step g n image (given o) (record { role = PointsX; entry = l.x }) → r ≡ all_placed g n image (given (start g n)) (in_order (parts l))
    x-only r f = rw (f, e, x-step)

pub ruleset only = (values-only, x-only, rules)
