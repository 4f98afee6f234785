-- Groups and addressing: the elements of one part of an object, where each stands in the image, and its line in the list.
use Rattle.std.specs.Prelude.{ℕ, ◌+◌, ◌*◌, ◌-◌, ◌/◌, ◌%◌, ◌^◌, ◌≤◌, ◌<◌, cond, eqb}
use Rattle.number.specs.Below.{sum_below}
use Rattle.cell.specs.Kind.{shape_of}
use Rattle.tables.specs.Form.{Tables, past_points, kind, place, x, y, wide, high, walk, mask, first}
use Rattle.tables.specs.declared.group.Storage.{Storage}

-- "Requests name an element by object number, part and index": the group of an object's part (x 0, y 1, v 2)
abbrev pub group_of : ℕ → ℕ → ℕ
group_of object part = object * 3 + part

-- The index i of a listing counts "x fastest in a map whatever the storage": its x point is i % x, its y point i / x.
-- Where it stands among the stored ones: "ROW_DIR: x runs fastest .. COLUMN_DIR: y runs fastest. INDEX_DECR stores the axis's last point first".
unfoldable pub position : ℕ → ℕ → ℕ → ℕ → ℕ → ℕ
position walk x wide high i =
    cond (eqb walk 2) (i % x * high + i / x)
    (cond (eqb walk 1) (x - 1 - i)
    (i / x * wide + i % x))

module _ (T : Tables) (g : ℕ) where
  -- how many elements a group has
  abbrev pub elements : ℕ
  elements = x T g * y T g

  -- how many bytes an element of it has
  abbrev pub bytes : ℕ
  bytes = (shape_of (kind T g)).bytes

  -- the place of element i's first byte in the image
  unfoldable pub place_of : ℕ → ℕ
  place_of i = place T g + bytes * position (walk T g) (x T g) (wide T g) (high T g) i

  -- how it is stored, in one
  abbrev pub storage_of : Storage
  storage_of = record {
    kind = kind T g;
    first = first T g;
    place = place T g;
    x = x T g;
    y = y T g;
    wide = wide T g;
    high = high T g;
    walk = walk T g;
    mask = mask T g;
  }

-- the room is one that a group has
abbrev pub IsModest : Storage → Type 0
IsModest s = (s.wide ≤ past_points) × (s.high ≤ past_points)

-- so is the index: then no place grows too large
abbrev pub IsReachable : Storage → ℕ → Type 0
IsReachable s i = IsModest s × (i < 2 ^ 40)

-- the place of element i's first byte, of what is stored so
abbrev pub place_by : Storage → ℕ → ℕ
place_by s i = s.place + (shape_of s.kind).bytes * position s.walk s.x s.wide s.high i

-- the list's line of group g's first element, and of its element i
abbrev pub lines_before : Tables → ℕ → ℕ
lines_before T g = sum_below g (elements T)

abbrev pub line_of : Tables → ℕ → ℕ → ℕ
line_of T g i = lines_before T g + i
