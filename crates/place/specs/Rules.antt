-- The rules of place that a layout keeps, else it is 11. A part that the layout has not breaks none.
use Rattle.std.specs.Prelude.{List, [], ◌∷◌, Bool, true, false, not, ◌&&◌, ◌||◌, ltb, eqb}
use Rattle.place.specs.declared.order.Entry.{Entry}
use Rattle.place.specs.declared.order.Layout.{Layout}
use Rattle.place.specs.declared.rules.Need.{Need}

unfoldable pub both : Entry → Entry → Bool
both p q = p.present && q.present

-- "equal positions are 11"
unfoldable pub apart : Entry → Entry → Bool
apart p q = not (both p q && eqb p.position q.position)

unfoldable pub apart_from : Entry → List Entry → Bool
apart_from p [] = true
apart_from p (q ∷ qs) = apart p q && apart_from p qs

unfoldable pub all_apart : List Entry → Bool
all_apart [] = true
all_apart (p ∷ ps) = apart_from p ps && all_apart ps

unfoldable pub distinct : Layout → Bool
distinct l = all_apart (l.values ∷ l.x ∷ l.y ∷ l.nx ∷ l.ny ∷ [])

-- "A layout has the parts its object needs and no others: count parts only beside a stored axis; AXIS_PTS has no FNC_VALUES."
abbrev pub same : Bool → Bool → Bool
same true b = b
same false b = not b

unfoldable pub matching : Need → Layout → Bool
matching n l =
    same n.values l.values.present && same n.x.stored l.x.present && same n.y.stored l.y.present
    && (n.x.stored || not l.nx.present) && (n.y.stored || not l.ny.present)

-- "A count part comes before its axis and before the values."
unfoldable pub comes_before : Entry → Entry → Bool
comes_before p q = not (both p q) || ltb p.position q.position

unfoldable pub counted : Layout → Bool
counted l = comes_before l.nx l.x && comes_before l.nx l.values && comes_before l.ny l.y && comes_before l.ny l.values

-- "layout breaks the rules of place, or lacks a part its object needs" (11) where this is false
unfoldable pub sound_layout : Need → Layout → Bool
sound_layout n l = matching n l && distinct l && counted l
