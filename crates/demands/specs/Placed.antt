-- Where the parts of an object stand, said of the places alone.
use Rattle.std.specs.Prelude.{ℕ, ◌+◌, ◌-◌, ◌*◌, ◌%◌, ◌≤◌, ◌<◌, ◌≡◌, List, [], ◌∷◌, Bool, true, false, pos, length}
use Rattle.cell.specs.Kind.{shape_of}
use Rattle.cell.specs.Raw.{raw_at}
use Rattle.place.specs.Align.{alignment}
use Rattle.place.specs.Order.{in_order, parts}
use Rattle.place.specs.declared.order.Aligns.{Aligns}
use Rattle.place.specs.declared.order.Entry.{Entry}
use Rattle.place.specs.declared.order.Layout.{Layout}
use Rattle.place.specs.declared.order.Part.{Part}
use Rattle.place.specs.declared.order.Role.{Role}
use Rattle.place.specs.declared.order.Role.TheVariants.{Values, PointsX, PointsY, CountX, CountY}
use Rattle.place.specs.declared.rules.Axis.{Axis}
use Rattle.place.specs.declared.rules.Need.{Need}
use Rattle.place.specs.declared.walk.Ground.{Ground}
use Rattle.place.specs.declared.walk.Places.{Places}
use Rattle.tree.specs.Tree.{Among}

-- ---- addresses

-- m is "the next absolute address that its alignment divides", from n on
pub record Next (align n m : ℕ) : Type 0 where
  pub from : n ≤ m
  pub divides : m % align ≡ 0
  pub least : (k : ℕ) → n ≤ k → k % align ≡ 0 → m ≤ k

-- "The first part stands at the object's address. Each later part starts at the next absolute address that its alignment divides.":
-- a part that others come before (or not) stands at an address, where the one before ends at n
abbrev pub StartsAt : Bool → ℕ → ℕ → ℕ → Type 0
StartsAt false align n at = at ≡ n
StartsAt true align n at = Next align n at

module _ (p : Places) where
  -- where the part with a role stands
  abbrev pub address_for : Role → ℕ
  address_for Values = p.values
  address_for PointsX = p.x
  address_for PointsY = p.y
  address_for CountX = p.nx
  address_for CountY = p.ny

  -- "Parts are packed by the actual count.": how many elements it has
  abbrev pub elements_for : Role → ℕ
  elements_for Values = p.cx * p.cy
  elements_for PointsX = p.cx
  elements_for PointsY = p.cy
  elements_for CountX = 1
  elements_for CountY = 1

  -- the address past its last byte
  abbrev pub past_part : Part → ℕ
  past_part r = address_for r.role + (shape_of r.entry.kind).bytes * elements_for r.role

module _ (a : Aligns) (p : Places) where
  -- the parts rs stand one after the other; `any` says whether a part stands before them, which ends at `free`
  pub data Stand : Bool → ℕ → List Part → Type 0 where
    no_more : {any : Bool} {free : ℕ} → Stand any free []
    absent : {any : Bool} {free : ℕ} {r : Part} {rs : List Part} → r.entry.present ≡ false → Stand any free rs → Stand any free (r ∷ rs)
    stands : {any : Bool} {free : ℕ} {r : Part} {rs : List Part} → r.entry.present ≡ true
        → StartsAt any (alignment a (shape_of r.entry.kind)) free (address_for p r.role) → Stand true (past_part p r) rs → Stand any free (r ∷ rs)

-- ---- the rules of place (11)

-- r is a part that the layout has
abbrev pub Has : Layout → Part → Type 0
Has l r = Among r (parts l) × (r.entry.present ≡ true)

-- where a layout has both, the first comes before the second
abbrev pub Before : Entry → Entry → Type 0
Before e f = e.present ≡ true → f.present ≡ true → e.position < f.position

pub record LayoutKeeps (n : Need) (l : Layout) : Type 0 where
  -- "equal positions are 11"
  pub apart : (r q : Part) → Has l r → Has l q → r.entry.position ≡ q.entry.position → r.role ≡ q.role
  -- "A layout has the parts its object needs and no others: .. AXIS_PTS has no FNC_VALUES."
  pub has_values : l.values.present ≡ n.values
  pub has_x : l.x.present ≡ n.x.stored
  pub has_y : l.y.present ≡ n.y.stored
  -- "count parts only beside a stored axis"
  pub beside_x : l.nx.present ≡ true → n.x.stored ≡ true
  pub beside_y : l.ny.present ≡ true → n.y.stored ≡ true
  -- "A count part comes before its axis and before the values."
  pub before_x : Before l.nx l.x
  pub before_y : Before l.ny l.y
  pub before_values : Before l.nx l.values × Before l.ny l.values

-- ---- counts (12, 13)

-- the count c stands at an address, inside the image, in the object's byte order
pub record Counted (image : List ℕ) (g : Ground) (kind at most c : ℕ) : Type 0 where
  pub low : g.base ≤ at
  pub high : at + (shape_of kind).bytes ≤ g.base + length image
  pub reads : raw_at g.first (at - g.base) (shape_of kind) 0 image ≡ pos c
  pub some : 1 ≤ c
  pub few : c ≤ most

-- the axis a has c points; e is what the layout says of its count part, which stands at an address where the layout has it
pub record HasPoints (image : List ℕ) (g : Ground) (a : Axis) (e : Entry) (at c : ℕ) : Type 0 where
  -- "A stored count is 1 to MaxAxisPoints."
  pub counted : e.present ≡ true → Counted image g e.kind at a.most c
  -- "With no stored count the count is MaxAxisPoints"
  pub uncounted : a.stored ≡ true → e.present ≡ false → c ≡ a.most
  -- "for COM_AXIS it is that of the AXIS_PTS named (above the AXIS_DESCR's own maximum: 13)"; where there is no axis, 1, or the NUMBER of a VAL_BLK
  pub shared : a.stored ≡ false → (c ≡ a.points) × (c ≤ a.most)

-- ---- an object: the parts of the layout l stand at the places p

pub record ObjectPlaced (g : Ground) (n : Need) (image : List ℕ) (p : Places) (l : Layout) : Type 0 where
  -- "Parts stand in order of Position" (`in-order-rises` of place and `in-order-keeps`: positions rise, and these are exactly the parts)
  pub stand : Stand g.aligns p false g.address (in_order (parts l))
  pub rules : LayoutKeeps n l
  pub points_x : HasPoints image g n.x l.nx p.nx p.cx
  pub points_y : HasPoints image g n.y l.ny p.ny p.cy
  -- the place of a part that the layout has not is 0: so these are the only places
  pub nowhere : (r : Part) → Among r (parts l) → r.entry.present ≡ false → address_for p r.role ≡ 0
