-- The judgement of an object, by the tests that the code makes.
use Prim.Native.Nat.{ℕ, ◌+◌, ◌*◌, ◌^◌, ◌<◌, ◌≤◌}
use native.Mathlib.Nat.{mul-le-mul}
use native.Mathlib.Omega.{arith}
use mathlib.Core.Path.{◌≡◌}
use mathlib.Core.List.{List}
use mathlib.Core.Bool.{Bool, true, false, cond, not, ◌&&◌, ◌||◌}
use borrow.Author.Tests.{le-leb, lt-leb}
use borrow.Author.Rules.{rules}
use mir.Syntax.{w64}
use mir.Val.{Fits}
use Rattle.std.specs.Prelude.{Result, Ok, Err}
use Rattle.number.specs.Answer.{Answer, given, refused}
use Rattle.number.specs.Most.{most_elements}
use Rattle.cell.specs.Kind.{shape_of}
use Rattle.cell.specs.declared.kind.Shape.{Shape}
use Rattle.cell.proofs.Shapes.{bytes-of}
use Rattle.place.specs.Inside.{inside}
use Rattle.place.specs.Judge.{bytes_of, elements_stored, all_inside, weighed, judged_object}
use Rattle.place.specs.Told.{place_refusal_number, told_placed}
use Rattle.place.specs.Walk.{placement}
use Rattle.place.specs.declared.judge.Standing.{Standing}
use Rattle.place.specs.declared.order.Entry.{Entry}
use Rattle.place.specs.declared.order.Layout.{Layout}
use Rattle.place.specs.declared.rules.Need.{Need}
use Rattle.place.specs.declared.refusal.PlaceRefusal.{PlaceRefusal}
use Rattle.place.specs.declared.walk.Ground.{Ground}
use Rattle.place.specs.declared.walk.Places.{Places}
use Rattle.place.specs.declared.walk.Reached.{Reached}
use Rattle.place.proofs.Counts.{square}

pub byte-count : (t : Shape) (e : Entry) (k : ℕ) → t ≡ shape_of e.kind → t.bytes * k ≡ bytes_of e k
unfolding bytes_of
byte-count t e k q = rw q

pub fits-bytes : (w k : ℕ) → w ≤ 4 → k ≤ 2 ^ 32 → Fits w64 (w * k)
fits-bytes w k h l = let p : w * k ≤ 4 * 2 ^ 32 = mul-le-mul h l in record { fits = omega arith }

pub sum_is : (n : Need) (p : Places) (x y v : ℕ) → x ≡ cond n.x.stored p.cx 0 → y ≡ cond n.y.stored p.cy 0 → v ≡ cond n.values (p.cx * p.cy) 0
    → x + y + v ≡ elements_stored n p
unfolding elements_stored
sum_is n p x y v ex ey ev = rw (ex, ey, ev)

module _ (cx cy x y v : ℕ) (hx : cx < 65536) (hy : cy < 65536) (lx : x ≤ cx) (ly : y ≤ cy) where
  pub sum_low : v ≤ cx * cy → x + y + v ≤ 2 ^ 33
  sum_low l = omega (arith, square cx cy hx hy)

pub ruleset sums = (bytes-of, byte-count, fits-bytes, sum_is, sum_low, rules)

pub all-inside : (image : List ℕ) (base : ℕ) (n : Need) (l : Layout) (p : Places) (a b c : Bool) (x y v : ℕ)
    → x ≡ bytes_of l.x p.cx → y ≡ bytes_of l.y p.cy → v ≡ bytes_of l.values (p.cx * p.cy)
    → a ≡ inside image base p.x x → b ≡ inside image base p.y y → c ≡ inside image base p.values v
    → ((not n.x.stored || a) && (not n.y.stored || b) && (not n.values || c)) ≡ all_inside image base n l p
unfolding all_inside
all-inside image base n l p a b c x y v ex ey ev ea eb ec = rw (ea, eb, ec, ex, ey, ev)

module _ (image : List ℕ) (base : ℕ) (n : Need) (l : Layout) (used : ℕ) (p : Places) (e : ℕ) (q : e ≡ elements_stored n p) where
  pub weigh-over : most_elements < used + e → refused 8 ≡ weighed image base n l used p
  unfolding weighed
  weigh-over h = rw (← q, lt-leb (used + e) most_elements h)

  module _ (h : used + e ≤ most_elements) (b : Bool) (i : b ≡ all_inside image base n l p) where
    pub weigh-fine : b ≡ true → given (record { places = p; total = used + e }) ≡ weighed image base n l used p
    unfolding weighed
    weigh-fine t = rw (← q, le-leb (used + e) most_elements h, ← i, t)

    pub weigh-out : b ≡ false → refused 12 ≡ weighed image base n l used p
    unfolding weighed
    weigh-out t = rw (← q, le-leb (used + e) most_elements h, ← i, t)

pub ruleset weights = (weigh-over, weigh-fine, weigh-out, rules)

module _ (image : List ℕ) (g : Ground) (n : Need) (l : Layout) (used : ℕ) (r : Result Reached PlaceRefusal) (q : told_placed r ≡ placement g n image l) where
  pub judged-at : (s : Reached) (j : Answer Standing) → r ≡ Ok s → j ≡ weighed image g.base n l used s.places → j ≡ judged_object image g n l used
  unfolding judged_object
  judged-at s j e f = rw (← q, e, f)

  pub judged-no : (k : PlaceRefusal) → r ≡ Err k → refused (place_refusal_number k) ≡ judged_object image g n l used
  unfolding judged_object
  judged-no k e = rw (← q, e)

pub ruleset judgements = (judged-at, judged-no, rules)
