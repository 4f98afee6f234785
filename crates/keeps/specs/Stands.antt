-- Where an element of an accepted load stands (proofs/Elements.antt).
use Rattle.std.specs.Prelude.{ℕ, ◌+◌, ◌≤◌, ◌<◌, ◌≡◌, Bool}
use Rattle.place.specs.declared.order.Layout.{Layout}
use Rattle.place.specs.declared.rules.Need.{Need}
use Rattle.place.specs.declared.walk.Places.{Places}
use Rattle.tables.specs.Form.{Tables, kind, place, x, y}
use Rattle.tables.specs.Group.{elements, bytes, place_of}

-- the parts of an object: x points, y points, values
pub data Part : Type 0 where
  points_x points_y values : Part

-- the part's number: "Requests name an element by object number, part and index"
abbrev pub number_of : Part → ℕ
number_of points_x = 0
number_of points_y = 1
number_of values = 2

-- whether an object stores it
abbrev pub needed : Need → Part → Bool
needed n points_x = n.x.stored
needed n points_y = n.y.stored
needed n values = n.values

-- its address
abbrev pub address_of : Places → Part → ℕ
address_of p points_x = p.x
address_of p points_y = p.y
address_of p values = p.values

-- its data type
abbrev pub type_of : Layout → Part → ℕ
type_of l points_x = l.x.kind
type_of l points_y = l.y.kind
type_of l values = l.values.kind

-- its points across: an axis's, and in x of the values
abbrev pub across_of : Places → Part → ℕ
across_of p points_x = p.cx
across_of p points_y = p.cy
across_of p values = p.cx

-- its points down: one of an axis, and in y of the values
abbrev pub down_of : Places → Part → ℕ
down_of p points_x = 1
down_of p points_y = 1
down_of p values = p.cy

-- group g of the tables is a part that stands at places p by a layout: at the part's address, of its data type, with its points; and every
-- element's bytes are bytes of the image, whose m bytes begin at the base address
pub record StandsAt (T : Tables) (g base m : ℕ) (l : Layout) (p : Places) (part : Part) : Type 0 where
  pub address : base + place T g ≡ address_of p part
  pub type : kind T g ≡ type_of l part
  pub across : x T g ≡ across_of p part
  pub down : y T g ≡ down_of p part
  pub inside : (j : ℕ) → j < elements T g → base + place_of T g j + bytes T g ≤ base + m
