-- A group whose bytes lie apart: no element of it has one of the bytes.
use mathlib.Core.Path.{◌≡◌, refl, sym, ◌∙◌}
use mathlib.Core.List.{List}
use mathlib.Core.Bool.{Bool, true, false, not, ◌&&◌, ◌||◌, false≢true}
use Prim.Native.Nat.{ℕ, suc, ◌+◌, ◌*◌, ◌≤◌, ◌<◌}
use native.Mathlib.Omega.{arith}
use native.Mathlib.Nat.{mul-le-mul, mul-le-mul_left, mul-suc}
use borrow.Author.Rules.{rules}
use borrow.Author.Tests.{lt-ltb, ltb-true, leb-true, eqb-true, eq-eqb}
use lib.Dec.{ltb, leb, eqb}
use mir.Syntax.{w64}
use mir.Val.{Fits}
use Rattle.cell.specs.Kind.{shape_of}
use Rattle.cell.proofs.Shapes.{bytes_le}
use Rattle.tables.specs.Form.{Tables, tables_in, past_points}
use Rattle.tables.specs.Group.{elements, place_of, position, storage_of, IsReachable, place_by}
use Rattle.tables.specs.declared.group.Storage.{Storage}
use Rattle.tables.proofs.Addressing.{position-below}
use Rattle.tables.proofs.GroupLaws.{elements-most, stored-reachable}
use Rattle.tables.proofs.All.{left, right, three}
use Rattle.look.specs.Element.{shares, touched}
use Rattle.look.specs.Steps.{picked}

-- ---- one element
pub touch-by : (s : Storage) (lo hi i p w : ℕ) (b : Bool) → p ≡ place_by s i → w ≡ (shape_of s.kind).bytes → b ≡ shares lo hi p w → b ≡ shares lo hi (place_by s i) (shape_of s.kind).bytes
touch-by s lo hi i p w b e f h = h ∙ rw (e, f)

-- every element of a group can be reached
pub reached : (T : Tables) (g n i : ℕ) (s : Storage) → s ≡ storage_of T g → n ≡ elements T g → i < n → IsReachable s i
reached T g n i s e p h = stored-reachable T g i s e (omega (arith, elements-most T g))

pub touch-group : (t : List ℕ) (lo hi g i : ℕ) (s : Storage) (b : Bool) → s ≡ storage_of (tables_in t) g → b ≡ shares lo hi (place_by s i) (shape_of s.kind).bytes → b ≡ touched (tables_in t) lo hi g i
unfolding touched place_of
touch-group t lo hi g i s b e h = h ∙ rw e

-- ---- its room
pub holds-is : (x wide y high w : ℕ) → (leb x wide && leb y high && (not (eqb w 1) || eqb y 1)) ≡ true → (x ≤ wide) × (y ≤ high) × (w ≡ 1 → y ≡ 1)
holds-is x wide y high w h =
    let q = three (leb x wide) (leb y high) (not (eqb w 1) || eqb y 1) h in
    (leb-true x wide q.0, leb-true y high q.1, λ e. eqb-true y 1 (or-second (eqb w 1) (eqb y 1) (eq-eqb w 1 e) q.2)) where
      or-second : (a b : Bool) → a ≡ true → (not a || b) ≡ true → b ≡ true
      or-second true b e k = k
      or-second false b e k = absurd (false≢true e)

room_small : (a b : ℕ) → a ≤ past_points → b ≤ past_points → a * b ≤ past_points * past_points
room_small a b p q = mul-le-mul {n₂ = past_points} {m₂ = past_points} p q

pub room_fits : (a b : ℕ) → a ≤ past_points → b ≤ past_points → Fits w64 (a * b)
room_fits a b p q = record { fits = omega (arith, room_small a b p q) }

pub room-bytes-fit : (k h a b : ℕ) → h ≡ (shape_of k).bytes → a ≤ past_points → b ≤ past_points → Fits w64 (h * (a * b))
room-bytes-fit k h a b e p q =
    let m : h * (a * b) ≤ 4 * (past_points * past_points) = mul-le-mul {n₂ = 4} {m₂ = past_points * past_points} (rw e (bytes_le k)) (room_small a b p q) in
    record { fits = omega (arith, m) }

pub room-is : (k h r : ℕ) → h ≡ (shape_of k).bytes → h * r ≡ (shape_of k).bytes * r
room-is k h r e = rw e

-- ---- apart
within-apart : (lo hi p w q v : ℕ) → p ≤ q → q + v ≤ p + w → shares lo hi p w ≡ false → shares lo hi q v ≡ false
unfolding shares
within-apart lo hi p w q v a b h = by_tests (ltb q hi) (ltb lo (q + v)) refl refl where
  by_tests : (c d : Bool) → ltb q hi ≡ c → ltb lo (q + v) ≡ d → (c && d) ≡ false
  by_tests false d e f = refl
  by_tests true false e f = refl
  by_tests true true e f =
      let m = ltb-true q hi e in
      let n = ltb-true lo (q + v) f in
      absurd (false≢true (sym h ∙ rw (lt-ltb p hi (omega arith), lt-ltb lo (p + w) (omega arith))))

not-true : (c : Bool) → not c ≡ true → c ≡ false
not-true false e = refl
not-true true e = absurd (false≢true e)

module _ (s : Storage) (lo hi : ℕ) where
  -- no element has one of the bytes from lo up to hi
  abbrev pub Apart : Type 0
  Apart = (i : ℕ) → i < s.x * s.y → shares lo hi (place_by s i) (shape_of s.kind).bytes ≡ false

  pub apart-is : (room : ℕ) (h c : Bool) → (h ≡ true → (s.x ≤ s.wide) × (s.y ≤ s.high) × (s.walk ≡ 1 → s.y ≡ 1)) → room ≡ (shape_of s.kind).bytes * (s.wide * s.high)
      → c ≡ shares lo hi s.place room → (h && not c) ≡ true → Apart
  apart-is room h c f e q r i l =
      let w = f (left h (not c) r) in
      let n : shares lo hi s.place room ≡ false = sym q ∙ not-true c (right h (not c) r) in
      let p = position-below s.walk s.x s.y s.wide s.high w.0 w.1 w.2 i l in
      let b = (shape_of s.kind).bytes in
      let m : b * suc (position s.walk s.x s.wide s.high i) ≤ b * (s.wide * s.high) = mul-le-mul_left b p in
      within-apart lo hi s.place room (place_by s i) b (omega arith) (omega (arith, m, mul-suc b (position s.walk s.x s.wide s.high i))) n

  -- by the code's test, whether all lines are picked
  module _ (all : Bool) (i : ℕ) where
    pub pass-none : ◌≡◌ {A = Bool} false true → (all || shares lo hi (place_by s i) (shape_of s.kind).bytes) ≡ false
    pass-none h = absurd (false≢true h)

    pub pass-apart : (r : Bool) → all ≡ false → r ≡ true → (r ≡ true → Apart) → i < s.x * s.y → (all || shares lo hi (place_by s i) (shape_of s.kind).bytes) ≡ false
    pass-apart r e h a l = rw e (a h i l)

-- no line of a group that lies apart is picked
pub passed_is : (t : List ℕ) (lo hi g n i : ℕ) (s : Storage) (all r : Bool) → s ≡ storage_of (tables_in t) g → n ≡ elements (tables_in t) g → i < n
    → (r ≡ true → (j : ℕ) → j < s.x * s.y → (all || shares lo hi (place_by s j) (shape_of s.kind).bytes) ≡ false) → r ≡ true
    → picked t lo hi all g i ≡ false
passed_is t lo hi g n i s all r es en l h y =
    let e : shares lo hi (place_by s i) (shape_of s.kind).bytes ≡ touched (tables_in t) lo hi g i = touch-group t lo hi g i s (shares lo hi (place_by s i) (shape_of s.kind).bytes) es refl in
    let b : i < s.x * s.y = rw (es, ← en) l in
    rw (← e) (h y i b)

pub ruleset aparts = (touch-by, holds-is, room_fits, room-bytes-fit, room-is, apart-is, pass-none, pass-apart, rules)
