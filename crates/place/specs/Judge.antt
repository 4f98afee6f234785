-- "then each object's layout and mask (11), counts (12, 13), share of the element total (8), element bytes (12)": all of it but the mask.
use Rattle.std.specs.Prelude.{ℕ, ◌+◌, ◌*◌, List, Bool, cond, not, ◌&&◌, ◌||◌, leb}
use Rattle.number.specs.Answer.{Answer, given, refused}
use Rattle.number.specs.Most.{most_elements}
use Rattle.cell.specs.Kind.{shape_of}
use Rattle.place.specs.Inside.{inside}
use Rattle.place.specs.Walk.{placement}
use Rattle.place.specs.declared.judge.Standing.{Standing}
use Rattle.place.specs.declared.order.Entry.{Entry}
use Rattle.place.specs.declared.order.Layout.{Layout}
use Rattle.place.specs.declared.rules.Need.{Need}
use Rattle.place.specs.declared.walk.Ground.{Ground}
use Rattle.place.specs.declared.walk.Places.{Places}
use Rattle.place.specs.declared.walk.Reached.{Reached}

-- How many bytes so many elements of a part take.
unfoldable pub bytes_of : Entry → ℕ → ℕ
bytes_of e count = (shape_of e.kind).bytes * count

-- The x points, y points and values that the object stores; stored counts are no elements.
unfoldable pub elements_stored : Need → Places → ℕ
elements_stored n p = cond n.x.stored p.cx 0 + cond n.y.stored p.cy 0 + cond n.values (p.cx * p.cy) 0

-- Every element's bytes are bytes of the image.
unfoldable pub all_inside : List ℕ → ℕ → Need → Layout → Places → Bool
all_inside image base n l p =
    (not n.x.stored || inside image base p.x (bytes_of l.x p.cx))
    && (not n.y.stored || inside image base p.y (bytes_of l.y p.cy))
    && (not n.values || inside image base p.values (bytes_of l.values (p.cx * p.cy)))

-- "4,096 elements in all objects" (else 8), with those of the objects before; then "a byte outside the image" (12)
unfoldable pub weighed : List ℕ → ℕ → Need → Layout → ℕ → Places → Answer Standing
weighed image base n l used p =
    cond (leb (used + elements_stored n p) most_elements)
    (cond (all_inside image base n l p) (given (record { places = p; total = used + elements_stored n p })) (refused 12))
    (refused 8)

abbrev pub after : List ℕ → Ground → Need → Layout → ℕ → Answer Reached → Answer Standing
after image g n l used (given s) = weighed image g.base n l used s.places
after image g n l used (refused k) = refused k

unfoldable pub judged_object : List ℕ → Ground → Need → Layout → ℕ → Answer Standing
judged_object image g n l used = after image g n l used (placement g n image l)
