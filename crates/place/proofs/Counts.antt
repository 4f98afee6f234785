-- Counts, starts and the ends of parts, by the tests that the code makes.
use Prim.Native.Nat.{ℕ, ◌+◌, ◌*◌, ◌-◌, ◌^◌, ◌<◌, ◌≤◌}
use native.Mathlib.Nat.{mul-le-mul}
use native.Mathlib.Omega.{arith}
use mathlib.Core.Path.{◌≡◌, refl, sym, ◌∙◌, ap}
use mathlib.Core.List.{List}
use mathlib.Core.Bool.{Bool, true, false, ◌&&◌, ◌||◌}
use borrow.Author.Tests.{le-leb, lt-leb, ltb-true, ltb-false, leb-true, leb-false}
use borrow.Author.Rules.{rules}
use lib.Dec.{leb}
use lib.IntN.{ℤ, pos, negsuc, nat_abs}
use lib.ListN.{length}
use lib.Signed.{lt_z, mag}
use mir.Syntax.{w64}
use mir.Val.{SFits}
use mir.Facts.{to_z-of_z}
use Rattle.number.specs.Answer.{Answer, given, refused}
use Rattle.cell.specs.Kind.{shape_of}
use Rattle.cell.specs.Raw.{raw_at}
use Rattle.cell.specs.declared.kind.Shape.{Shape}
use Rattle.cell.proofs.Signed.{back, returned}
use Rattle.cell.proofs.Types.{clash}
use Rattle.place.specs.Align.{aligned}
use Rattle.place.specs.Inside.{inside}
use Rattle.place.specs.Walk.{start_of, points_of, within, count_stored, count_at}
use Rattle.place.specs.declared.rules.Axis.{Axis}
use Rattle.place.specs.declared.walk.Ground.{Ground}
use Rattle.place.specs.declared.walk.Reached.{Reached}
use Rattle.place.proofs.Aligns.{near}

-- bytes inside the image
same_turn : (t : Bool) (a b c d : ℕ) → leb a b ≡ t → (a ≤ b → c ≤ d) → (b < a → d < c) → t ≡ leb c d
same_turn true a b c d e f g = sym (le-leb c d (f (leb-true a b e)))
same_turn false a b c d e f g = sym (lt-leb c d (g (leb-false a b e)))

module _ (image : List ℕ) (base at bytes : ℕ) where
  pub in-below : at < base → false ≡ inside image base at bytes
  unfolding inside
  in-below h = rw (lt-leb base at h)

  pub in-short : base ≤ at → length image < bytes → false ≡ inside image base at bytes
  unfolding inside
  in-short h l = rw (le-leb base at h, lt-leb (at + bytes) (base + length image) (omega arith))

  pub in-last : base ≤ at → bytes ≤ length image → leb (at - base) (length image - bytes) ≡ inside image base at bytes
  unfolding inside
  in-last h l = rw (le-leb base at h)
      (same_turn (leb (at - base) (length image - bytes)) (at - base) (length image - bytes) (at + bytes) (base + length image) refl (λ g. omega arith) (λ g. omega arith))

  from-turn : (t : Bool) (u : Bool) → leb base at ≡ t → (t && u) ≡ true → base ≤ at
  from-turn true u e f = leb-true base at e
  from-turn false u e f = clash (sym f)

  -- what is inside starts at the base address or after it
  pub in-from : (b : Bool) → b ≡ inside image base at bytes → b ≡ true → base ≤ at
  unfolding inside
  in-from b e f = from-turn (leb base at) (leb (at + bytes) (base + length image)) refl (sym e ∙ f)

  -- "base address plus image length 2^32" at most: no address past 2^32 is inside
  pub in-past : base + length image ≤ 2 ^ 32 → 2 ^ 32 < at + bytes → false ≡ inside image base at bytes
  unfolding inside
  in-past h l = past (leb base at)
    where
      past : (b : Bool) → false ≡ (b && leb (at + bytes) (base + length image))
      past true = sym (lt-leb (at + bytes) (base + length image) (omega arith))
      past false = refl

pub ruleset insides = (in-below, in-short, in-last, rules)

-- an axis
pub points-stored : (a : Axis) → a.stored ≡ true → a.most ≡ points_of a
unfolding points_of
points-stored a e = rw e

pub points-given : (a : Axis) → a.stored ≡ false → a.points ≡ points_of a
unfolding points_of
points-given a e = rw e

pub is_within_lem : (a : Axis) → (a.stored || leb a.points a.most) ≡ within a
unfolding within
is_within_lem a = refl

pub ruleset axes = (points-stored, points-given, is_within_lem, rules)

-- a stored count
low : (most : ℕ) (z : ℤ) → lt_z z (pos 1) ≡ true → refused 13 ≡ count_stored most z
unfolding count_stored
low most (pos n) h = let k = ltb-true n 1 h in rw (lt-leb 1 n k)
low most (negsuc n) h = refl

above : (most : ℕ) (z : ℤ) → lt_z z (pos 1) ≡ false → most < nat_abs z → refused 13 ≡ count_stored most z
unfolding count_stored
above most (pos n) h g = let k = ltb-false n 1 h in rw (le-leb 1 n k, lt-leb n most g)
above most (negsuc n) h g = clash h

counted : (most : ℕ) (z : ℤ) → lt_z z (pos 1) ≡ false → nat_abs z ≤ most → given (nat_abs z) ≡ count_stored most z
unfolding count_stored
counted most (pos n) h g = let k = ltb-false n 1 h in rw (le-leb 1 n k, le-leb n most g)
counted most (negsuc n) h g = clash h

-- by what the machine reads back of a parameter
module _ (most : ℕ) (z : ℤ) (f : SFits w64 z) where
  pub count_low : lt_z (back z) (pos 1) ≡ true → refused 13 ≡ count_stored most z
  count_low h = low most z (sym (ap (λ (x : ℤ). lt_z x (pos 1)) (to_z-of_z f)) ∙ h)

  module _ (h : lt_z (back z) (pos 1) ≡ false) (n : ℕ) (e : n ≡ nat_abs (back z)) where
    is-n : n ≡ nat_abs z
    is-n = e ∙ ap nat_abs (to_z-of_z f)

    from : lt_z z (pos 1) ≡ false
    from = sym (ap (λ (x : ℤ). lt_z x (pos 1)) (to_z-of_z f)) ∙ h

    pub count-above : most < n → refused 13 ≡ count_stored most z
    count-above g = above most z from (omega (arith, is-n))

    pub count_of : n ≤ most → given n ≡ count_stored most z
    count_of g = ap (λ (m : ℕ). given m) is-n ∙ counted most z from (omega (arith, is-n))

pub ruleset counts = (count_low, count-above, count_of, rules)

module _ (image : List ℕ) (g : Ground) (kind at most : ℕ) (t : Shape) (b : Bool) (q : t ≡ shape_of kind) (e : b ≡ inside image g.base at t.bytes) where
  is-in : b ≡ inside image g.base at (shape_of kind).bytes
  is-in = e ∙ ap (λ (u : Shape). inside image g.base at u.bytes) q

  pub at_out : b ≡ false → refused 12 ≡ count_at image g kind at most
  unfolding count_at
  at_out f = rw (sym is-in ∙ f)

  pub at_in : b ≡ true → (z : ℤ) → mag z < 2 ^ 63 → z ≡ raw_at g.first (at - g.base) (shape_of kind) 0 image
      → (c : Answer ℕ) → c ≡ count_stored most (back z) → c ≡ count_at image g kind at most
  unfolding count_at
  at_in f z m r c h = rw (sym is-in ∙ f) (h ∙ ap (count_stored most) (returned z m ∙ r))

pub ruleset counts-at = (in-from, at_out, at_in, rules)

-- where a part starts
module _ (align : ℕ) (s : Reached) where
  pub start_first : s.any ≡ false → s.free ≡ start_of align s
  unfolding start_of
  start_first e = rw e

  pub start-later : (r : ℕ) → s.any ≡ true → r ≡ aligned align s.free → r ≡ start_of align s
  unfolding start_of
  start-later r e f = rw (e, f)

  pub start-near : (r : ℕ) → align < 256 → r ≡ aligned align s.free → r ≤ s.free + 255
  unfolding aligned
  start-near r h e = omega (arith, e, near align align s.free)

pub ruleset starts = (start_first, start-later, start-near, rules)

-- counts below 2^16
pub square : (a b : ℕ) → a < 65536 → b < 65536 → a * b ≤ 65536 * 65536
square a b f g = let k : a ≤ 65536 = omega arith in let l : b ≤ 65536 = omega arith in mul-le-mul k l
