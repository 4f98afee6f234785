-- "Parts stand in order of Position"
use Rattle.std.specs.Prelude.{List, [], ◌∷◌, cond, ltb}
use Rattle.place.specs.declared.order.Layout.{Layout}
use Rattle.place.specs.declared.order.Role.TheVariants.{Values, PointsX, PointsY, CountX, CountY}
use Rattle.place.specs.declared.order.Part.{Part}

-- A part put before the first of a later position.
unfoldable pub insert : Part → List Part → List Part
insert p [] = p ∷ []
insert p (q ∷ qs) = cond (ltb p.entry.position q.entry.position) (p ∷ q ∷ qs) (q ∷ insert p qs)

-- A list of parts in order of Position.
unfoldable pub in_order : List Part → List Part
in_order [] = []
in_order (p ∷ ps) = insert p (in_order ps)

-- What a layout says of each part.
unfoldable pub parts : Layout → List Part
parts l =
    record { role = Values; entry = l.values } ∷ record { role = PointsX; entry = l.x } ∷ record { role = PointsY; entry = l.y }
    ∷ record { role = CountX; entry = l.nx } ∷ record { role = CountY; entry = l.ny } ∷ []

-- The first of some parts put among the others.
unfoldable pub put_first : List Part → List Part
put_first [] = []
put_first (p ∷ ps) = insert p ps

-- The code's row of parts, as a list.
abbrev pub five : List Part → List Part
five s = s
