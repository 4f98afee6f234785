-- One part after another, by the cases that the code has.
use Prim.Native.Nat.{ℕ, ◌+◌, ◌*◌, ◌<◌, ◌≤◌, ◌^◌}
use native.Mathlib.Nat.{mul-le-mul}
use native.Mathlib.Omega.{arith}
use mathlib.Core.Path.{◌≡◌, refl, sym, ◌∙◌, ap}
use mathlib.Core.List.{List, [], ◌∷◌}
use mathlib.Core.Bool.{Bool, true, false, ◌&&◌}
use borrow.Author.Rules.{rules}
use Rattle.std.specs.Prelude.{length, get_or, drop}
use Rattle.std.proofs.lemmas.List.{at_drop_more, at_drop_all}
use mir.Syntax.{w32}
use mir.Val.{Fits}
use Rattle.number.specs.Answer.{Answer, given, refused}
use Rattle.cell.specs.Kind.{shape_of}
use Rattle.cell.specs.declared.kind.Shape.{Shape}
use Rattle.cell.proofs.Shapes.{bytes-of}
use Rattle.place.specs.Align.{alignment}
use Rattle.place.specs.Order.{in_order, parts}
use Rattle.place.specs.Rules.{sound_layout}
use Rattle.place.specs.Walk.{start_of, points_of, within, count_at, values_at, x_at, y_at, count_x_at, count_y_at, place_one, step, all_placed, start, placement}
use Rattle.place.specs.declared.order.Layout.{Layout}
use Rattle.place.specs.declared.order.Role.TheVariants.{Values, PointsX, PointsY, CountX, CountY}
use Rattle.place.specs.declared.order.Part.{Part}
use Rattle.place.specs.declared.rules.Need.{Need}
use Rattle.place.specs.declared.walk.Ground.{Ground}
use Rattle.place.specs.declared.walk.Reached.{Reached}

-- a start is near the next free address
pub start-low : (at free : ℕ) → at ≤ free + 255 → free < 2 ^ 62 → at < 2 ^ 63
start-low at free h l = omega arith

-- the end of a part is near it
pub end_low : (end at free : ℕ) → end ≤ at + 17179869184 → at ≤ free + 255 → end ≤ free + 34359738368
end_low end at free h l = omega arith

module _ (g : Ground) (n : Need) (image : List ℕ) (s : Reached) (p : Part) (t : Shape) (align at : ℕ)
    (e : t ≡ shape_of p.entry.kind) (a : align ≡ alignment g.aligns t) (f : at ≡ start_of align s) where
  pub one-values : (q : Reached) → p.role ≡ Values → q ≡ values_at at t.bytes s → given q ≡ place_one g n image s p
  unfolding place_one
  one-values q r h = rw (h, f, a, e, r)

  pub one-x : (q : Reached) → p.role ≡ PointsX → q ≡ x_at at t.bytes s → given q ≡ place_one g n image s p
  unfolding place_one
  one-x q r h = rw (h, f, a, e, r)

  pub one-y : (q : Reached) → p.role ≡ PointsY → q ≡ y_at at t.bytes s → given q ≡ place_one g n image s p
  unfolding place_one
  one-y q r h = rw (h, f, a, e, r)

  one-byte : t.bytes * 1 ≡ t.bytes
  one-byte = omega arith

  pub one-count-x : (q : Reached) (m : ℕ) → p.role ≡ CountX → given m ≡ count_at image g p.entry.kind at n.x.most
      → q ≡ record { free = at + t.bytes * 1; any = true; places = record { values = s.places.values; x = s.places.x; y = s.places.y; nx = at; ny = s.places.ny; cx = m; cy = s.places.cy } }
      → given q ≡ place_one g n image s p
  unfolding place_one
  one-count-x q m r k h = rw (h, one-byte) (ap (count_x_at at t.bytes s) k ∙ rw (f, a, e, r))

  pub one-count-y : (q : Reached) (m : ℕ) → p.role ≡ CountY → given m ≡ count_at image g p.entry.kind at n.y.most
      → q ≡ record { free = at + t.bytes * 1; any = true; places = record { values = s.places.values; x = s.places.x; y = s.places.y; nx = s.places.nx; ny = at; cx = s.places.cx; cy = m } }
      → given q ≡ place_one g n image s p
  unfolding place_one
  one-count-y q m r k h = rw (h, one-byte) (ap (count_y_at at t.bytes s) k ∙ rw (f, a, e, r))

  pub no-count-x : (k : ℕ) → p.role ≡ CountX → refused k ≡ count_at image g p.entry.kind at n.x.most → refused k ≡ place_one g n image s p
  unfolding place_one
  no-count-x k r h = ap (count_x_at at t.bytes s) h ∙ rw (f, a, e, r)

  pub no-count-y : (k : ℕ) → p.role ≡ CountY → refused k ≡ count_at image g p.entry.kind at n.y.most → refused k ≡ place_one g n image s p
  unfolding place_one
  no-count-y k r h = ap (count_y_at at t.bytes s) h ∙ rw (f, a, e, r)

pub square-fits : (a b : ℕ) → a < 65536 → b < 65536 → Fits w32 (a * b)
square-fits a b f g = let k : a ≤ 65535 = omega arith in let l : b ≤ 65535 = omega arith in let p : a * b ≤ 65535 * 65535 = mul-le-mul k l in record { fits = omega (arith, p) }

pub ruleset ones = (bytes-of, start-low, end_low, square-fits, one-values, one-x, one-y, one-count-x, one-count-y, no-count-x, no-count-y, rules)

pub at_least : (a b : ℕ) → a ≤ a + b
at_least a b = omega arith

pub start_is : (g : Ground) (n : Need) (x y : ℕ) → x ≡ points_of n.x → y ≡ points_of n.y
    → record { free = g.address; any = false; places = record { values = 0; x = 0; y = 0; nx = 0; ny = 0; cx = x; cy = y } } ≡ start g n
unfolding start
start_is g n x y e f = rw (e, f)

pub ruleset started = (start_is, rules)

module _ (g : Ground) (n : Need) (image : List ℕ) (l : Layout) where
  all-refused : (k : ℕ) (ps : List Part) → refused k ≡ all_placed g n image (refused k) ps
  unfolding all_placed
  all-refused k [] = refl
  all-refused k (p ∷ ps) = all-refused k ps

  -- the parts before number i of these stand: placing the rest answers what placing all does, and the next address is low
  pub record Sorting (ps : List Part) (i : ℕ) (s : Reached) : Type 0 where
    pub rest : all_placed g n image (given s) (drop i ps) ≡ all_placed g n image (given (start g n)) ps
    pub low : s.free < 4294967296 + i * 34359738368

  pub sorting-start : (ps : List Part) (o : Reached) → o ≡ start g n → o.free < 4294967296 → Sorting ps 0 o
  sorting-start ps o e h = record { rest = rw e; low = omega (arith, h) }

  module _ (ps : List Part) (i : ℕ) (s : Reached) (q : Sorting ps i s) where
    pub sorting-low : i < 5 → s.free < 2 ^ 62
    sorting-low h = omega (arith, q.low)

    module _ (d : Part) (h : i < length ps) where
      next : all_placed g n image (step g n image (given s) (get_or ps i d)) (drop (i + 1) ps) ≡ all_placed g n image (given (start g n)) ps
      unfolding all_placed
      next = sym (at_drop_more (all_placed g n image (given s)) ps i d h) ∙ q.rest

      pub sorting-next : (t : Reached) → given t ≡ step g n image (given s) (get_or ps i d) → t.free ≤ s.free + 34359738368 → Sorting ps (i + 1) t
      sorting-next t e l = record { rest = rw (← e) at next; low = omega (arith, q.low, l) }

      pub sorting-stop : (k : ℕ) → refused k ≡ step g n image (given s) (get_or ps i d) → ps ≡ in_order (parts l) → refused k ≡ all_placed g n image (given (start g n)) (in_order (parts l))
      sorting-stop k e y = all-refused k (drop (i + 1) ps) ∙ (rw (← e) at next) ∙ ap (all_placed g n image (given (start g n))) y

    pub sorting-end : length ps ≤ i → ps ≡ in_order (parts l) → given s ≡ all_placed g n image (given (start g n)) (in_order (parts l))
    unfolding all_placed
    sorting-end h y = sym (at_drop_all (all_placed g n image (given s)) ps i h) ∙ q.rest ∙ ap (all_placed g n image (given (start g n))) y

  pub unsound : (b : Bool) → b ≡ sound_layout n l → b ≡ false → refused 11 ≡ placement g n image l
  unfolding placement
  unsound b e f = rw (← e, f)

  module _ (b x y : Bool) (e : b ≡ sound_layout n l) (f : b ≡ true) (h : x ≡ within n.x) (k : y ≡ within n.y) where
    pub not_within : (x && y) ≡ false → refused 13 ≡ placement g n image l
    unfolding placement
    not_within t = rw (← e, f, ← h, ← k, t)

    pub is-placed : (r : Answer Reached) → (x && y) ≡ true → r ≡ all_placed g n image (given (start g n)) (in_order (parts l)) → r ≡ placement g n image l
    unfolding placement
    is-placed r t q = rw (← e, f, ← h, ← k, t, q)

pub ruleset sortings = (sorting-start, sorting-low, sorting-next, sorting-stop, sorting-end, rules)

pub ruleset turns = (unsound, not_within, is-placed, rules)
