-- Where an object's parts stand: part after part, the first refusal stays.
use Rattle.std.specs.Prelude.{ℕ, ◌+◌, ◌*◌, ◌-◌, List, [], ◌∷◌, Bool, true, false, cond, ◌&&◌, ◌||◌, leb, ℤ, pos, negsuc}
use Rattle.number.specs.Answer.{Answer, given, refused}
use Rattle.cell.specs.Kind.{shape_of}
use Rattle.cell.specs.Raw.{raw_at}
use Rattle.place.specs.Align.{alignment, aligned}
use Rattle.place.specs.Inside.{inside}
use Rattle.place.specs.Order.{in_order, parts}
use Rattle.place.specs.Rules.{sound_layout}
use Rattle.place.specs.declared.order.Layout.{Layout}
use Rattle.place.specs.declared.order.Role.{Role}
use Rattle.place.specs.declared.order.Role.TheVariants.{Values, PointsX, PointsY, CountX, CountY}
use Rattle.place.specs.declared.order.Part.{Part}
use Rattle.place.specs.declared.rules.Axis.{Axis}
use Rattle.place.specs.declared.rules.Need.{Need}
use Rattle.place.specs.declared.walk.Ground.{Ground}
use Rattle.place.specs.declared.walk.Reached.{Reached}

-- "The first part stands at the object's address. Each later part starts at the next absolute address that its alignment divides."
unfoldable pub start_of : ℕ → Reached → ℕ
start_of align s = cond s.any (aligned align s.free) s.free

-- "A stored count is 1 to MaxAxisPoints" (else 13)
unfoldable pub count_stored : ℕ → ℤ → Answer ℕ
count_stored most (pos n) = cond (leb 1 n && leb n most) (given n) (refused 13)
count_stored most (negsuc n) = refused 13

-- The count that stands at an address: read by its data type, in the object's byte order, with no mask; 12 where a byte of it is outside the image.
unfoldable pub count_at : List ℕ → Ground → ℕ → ℕ → ℕ → Answer ℕ
count_at image g kind at most =
    cond (inside image g.base at (shape_of kind).bytes)
    (count_stored most (raw_at g.first (at - g.base) (shape_of kind) 0 image))
    (refused 12)

-- "With no stored count the count is MaxAxisPoints; for COM_AXIS it is that of the AXIS_PTS named"
unfoldable pub points_of : Axis → ℕ
points_of a = cond a.stored a.most a.points

-- "(above the AXIS_DESCR's own maximum: 13)" where this is false
unfoldable pub within : Axis → Bool
within a = a.stored || leb a.points a.most

-- "Parts are packed by the actual count.": a part stands at an address, and the next free address is past its elements.
abbrev pub values_at : ℕ → ℕ → Reached → Reached
values_at at bytes s =
    let p = s.places in
    record { free = at + bytes * (p.cx * p.cy); any = true; places = record { values = at; x = p.x; y = p.y; nx = p.nx; ny = p.ny; cx = p.cx; cy = p.cy } }

abbrev pub x_at : ℕ → ℕ → Reached → Reached
x_at at bytes s =
    let p = s.places in
    record { free = at + bytes * p.cx; any = true; places = record { values = p.values; x = at; y = p.y; nx = p.nx; ny = p.ny; cx = p.cx; cy = p.cy } }

abbrev pub y_at : ℕ → ℕ → Reached → Reached
y_at at bytes s =
    let p = s.places in
    record { free = at + bytes * p.cy; any = true; places = record { values = p.values; x = p.x; y = at; nx = p.nx; ny = p.ny; cx = p.cx; cy = p.cy } }

-- A count part stands at an address: from here on its axis has as many points.
abbrev pub count_x_at : ℕ → ℕ → Reached → Answer ℕ → Answer Reached
count_x_at at bytes s (given n) =
    let p = s.places in
    given (record { free = at + bytes; any = true; places = record { values = p.values; x = p.x; y = p.y; nx = at; ny = p.ny; cx = n; cy = p.cy } })
count_x_at at bytes s (refused k) = refused k

abbrev pub count_y_at : ℕ → ℕ → Reached → Answer ℕ → Answer Reached
count_y_at at bytes s (given n) =
    let p = s.places in
    given (record { free = at + bytes; any = true; places = record { values = p.values; x = p.x; y = p.y; nx = p.nx; ny = at; cx = p.cx; cy = n } })
count_y_at at bytes s (refused k) = refused k

abbrev pub standing : Ground → Need → List ℕ → ℕ → ℕ → Reached → Role → Answer Reached
standing g n image kind at s Values = given (values_at at (shape_of kind).bytes s)
standing g n image kind at s PointsX = given (x_at at (shape_of kind).bytes s)
standing g n image kind at s PointsY = given (y_at at (shape_of kind).bytes s)
standing g n image kind at s CountX = count_x_at at (shape_of kind).bytes s (count_at image g kind at n.x.most)
standing g n image kind at s CountY = count_y_at at (shape_of kind).bytes s (count_at image g kind at n.y.most)

-- One part that the layout has, after those before it.
unfoldable pub place_one : Ground → Need → List ℕ → Reached → Part → Answer Reached
place_one g n image s p = standing g n image p.entry.kind (start_of (alignment g.aligns (shape_of p.entry.kind)) s) s p.role

-- The next part after what came before it; the first refusal stays.
abbrev pub step : Ground → Need → List ℕ → Answer Reached → Part → Answer Reached
step g n image (given s) p = cond p.entry.present (place_one g n image s p) (given s)
step g n image (refused k) p = refused k

unfoldable pub all_placed : Ground → Need → List ℕ → Answer Reached → List Part → Answer Reached
all_placed g n image s [] = s
all_placed g n image s (p ∷ ps) = all_placed g n image (step g n image s p) ps

-- Before any part: the object's address, and the points where no count is stored.
unfoldable pub start : Ground → Need → Reached
start g n =
    record { free = g.address; any = false; places = record { values = 0; x = 0; y = 0; nx = 0; ny = 0; cx = points_of n.x; cy = points_of n.y } }

-- "each object's layout .. (11), counts (12, 13)": where the parts stand in order of Position
unfoldable pub placement : Ground → Need → List ℕ → Layout → Answer Reached
placement g n image l =
    cond (sound_layout n l)
    (cond (within n.x && within n.y) (all_placed g n image (given (start g n)) (in_order (parts l))) (refused 13))
    (refused 11)

-- The next free address.
abbrev pub free_of : Answer Reached → ℕ
free_of (given s) = s.free
free_of (refused k) = 0
