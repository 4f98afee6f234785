-- One part of an object, by the walk over the parts and as sentences: where it starts, the count that stands there, what is reached after it.
use Prim.Native.Nat.{ℕ, zero, suc, ◌+◌, ◌-◌, ◌*◌, ◌≤◌, ◌<◌}
use mathlib.Core.Path.{◌≡◌, refl, sym, ◌∙◌, ap}
use mathlib.Core.List.{List}
use mathlib.Core.Bool.{Bool, true, false, cond, ◌&&◌}
use native.Mathlib.Omega.{arith}
use borrow.Author.Tests.{le-leb, leb-true, eqb-false}
use lib.Dec.{eqb, leb}
use lib.IntN.{ℤ, pos, negsuc}
use lib.ListN.{length}
use Rattle.text.proofs.Within.{and_left, and_right}
use Rattle.number.specs.Answer.{Answer, given, refused}
use Rattle.cell.specs.Kind.{shapes, shape_of}
use Rattle.cell.specs.Raw.{raw_at}
use Rattle.place.specs.Align.{word_for, alignment, aligned}
use Rattle.place.specs.Inside.{inside}
use Rattle.place.specs.Walk.{start_of, count_stored, count_at, count_x_at, count_y_at, standing}
use Rattle.place.specs.declared.order.Aligns.{Aligns}
use Rattle.place.specs.declared.order.Role.{Role}
use Rattle.place.specs.declared.order.Role.TheVariants.{Values, PointsX, PointsY, CountX, CountY}
use Rattle.place.specs.declared.rules.Need.{Need}
use Rattle.place.specs.declared.walk.Ground.{Ground}
use Rattle.place.specs.declared.walk.Places.{Places}
use Rattle.place.specs.declared.walk.Reached.{Reached}
use Rattle.place.proofs.Aligns.{aligned-least, aligned-divides, aligned-from}
use Rattle.list.proofs.Writes.{never, same-given}
use Rattle.demands.specs.Placed.{StartsAt, elements_for, Counted}
use Rattle.demands.proofs.Roles.{wrote}

-- ---- alignment
align-some : (k : ℕ) → 0 < (shape_of k).align
unfolding shape_of shapes
align-some zero = omega arith
align-some (suc zero) = omega arith
align-some (suc (suc zero)) = omega arith
align-some (suc (suc (suc zero))) = omega arith
align-some (suc (suc (suc (suc zero)))) = omega arith
align-some (suc (suc (suc (suc (suc zero))))) = omega arith
align-some (suc (suc (suc (suc (suc (suc zero)))))) = omega arith
align-some (suc (suc (suc (suc (suc (suc (suc k))))))) = omega arith

pub alignment-some : (a : Aligns) (k : ℕ) → 0 < alignment a (shape_of k)
unfolding alignment
alignment-some a k = go (eqb (word_for a (shape_of k).bytes) 0) refl
  where
    go : (b : Bool) → eqb (word_for a (shape_of k).bytes) 0 ≡ b → 0 < cond b (shape_of k).align (word_for a (shape_of k).bytes)
    go true e = align-some k
    go false e = let z = eqb-false (word_for a (shape_of k).bytes) 0 e in omega arith

pub starts : (align : ℕ) (s : Reached) → 0 < align → StartsAt s.any align s.free (start_of align s)
unfolding start_of
starts align s h = go s.any
  where
    go : (b : Bool) → StartsAt b align s.free (cond b (aligned align s.free) s.free)
    go true = record { from = aligned-from align s.free; divides = aligned-divides align s.free h; least = λ k. aligned-least align s.free k }
    go false = refl

pub starts-one : (align : ℕ) (s : Reached) (at : ℕ) → 0 < align → StartsAt s.any align s.free at → start_of align s ≡ at
unfolding start_of
starts-one align s at h = go s.any
  where
    go : (b : Bool) → StartsAt b align s.free at → cond b (aligned align s.free) s.free ≡ at
    go true n = omega (arith, aligned-least align s.free at n.from n.divides, n.least (aligned align s.free) (aligned-from align s.free) (aligned-divides align s.free h))
    go false e = sym e

-- ---- stored counts
module _ (image : List ℕ) (g : Ground) (kind at most : ℕ) where
  in-counted : (c : ℕ) → g.base ≤ at → at + (shape_of kind).bytes ≤ g.base + length image → (z : ℤ) → raw_at g.first (at - g.base) (shape_of kind) 0 image ≡ z → count_stored most z ≡ given c
      → Counted image g kind at most c
  unfolding count_stored
  in-counted c l h (negsuc m) e q = absurd (never 13 c q)
  in-counted c l h (pos m) e q = go (leb 1 m && leb m most) refl q
    where
      go : (b : Bool) → (leb 1 m && leb m most) ≡ b → cond b (given m) (refused 13) ≡ given c → Counted image g kind at most c
      go true t r =
          let i : m ≡ c = same-given m c r in
          let u = leb-true 1 m (and_left (leb 1 m) (leb m most) t) in
          let w = leb-true m most (and_right (leb 1 m) (leb m most) t) in
          record { low = l; high = h; reads = e ∙ ap pos i; some = omega arith; few = omega arith }
      go false t r = absurd (never 13 c r)

  pub at-counted : (c : ℕ) → count_at image g kind at most ≡ given c → Counted image g kind at most c
  unfolding count_at inside
  at-counted c = go (leb g.base at && leb (at + (shape_of kind).bytes) (g.base + length image)) refl
    where
      go : (b : Bool) → (leb g.base at && leb (at + (shape_of kind).bytes) (g.base + length image)) ≡ b
          → cond b (count_stored most (raw_at g.first (at - g.base) (shape_of kind) 0 image)) (refused 12) ≡ given c → Counted image g kind at most c
      go true t q =
          in-counted c (leb-true g.base at (and_left (leb g.base at) (leb (at + (shape_of kind).bytes) (g.base + length image)) t))
          (leb-true (at + (shape_of kind).bytes) (g.base + length image) (and_right (leb g.base at) (leb (at + (shape_of kind).bytes) (g.base + length image)) t))
          (raw_at g.first (at - g.base) (shape_of kind) 0 image) refl q
      go false t q = absurd (never 12 c q)

  pub counted-at : (c : ℕ) → Counted image g kind at most c → count_at image g kind at most ≡ given c
  unfolding count_at inside count_stored
  counted-at c k =
      rw (le-leb g.base at k.low, le-leb (at + (shape_of kind).bytes) (g.base + length image) k.high, k.reads, le-leb 1 c k.some, le-leb c most k.few)

-- ---- one part

-- what is reached after one more part
abbrev pub past : ℕ → ℕ → ℕ → Places → Role → Reached
past kind at c a o = record { free = at + (shape_of kind).bytes * elements_for (wrote at c a o) o; any = true; places = wrote at c a o }

module _ (g : Ground) (n : Need) (image : List ℕ) where
  -- a count is read where it stands
  abbrev pub Reads : Role → ℕ → ℕ → ℕ → Type 0
  Reads Values kind at c = Unit {0}
  Reads PointsX kind at c = Unit {0}
  Reads PointsY kind at c = Unit {0}
  Reads CountX kind at c = Counted image g kind at n.x.most c
  Reads CountY kind at c = Counted image g kind at n.y.most c

  module _ (kind at : ℕ) (s : Reached) where
    one : at + (shape_of kind).bytes * 1 ≡ at + (shape_of kind).bytes
    one = omega arith

    pub reads-standing : (o : Role) (c : ℕ) → Reads o kind at c → standing g n image kind at s o ≡ given (past kind at c s.places o)
    reads-standing Values c k = refl
    reads-standing PointsX c k = refl
    reads-standing PointsY c k = refl
    reads-standing CountX c k = rw (counted-at image g kind at n.x.most c k, one)
    reads-standing CountY c k = rw (counted-at image g kind at n.y.most c k, one)

    pub standing-reads : (o : Role) (t : Reached) → standing g n image kind at s o ≡ given t → (c : ℕ) × Reads o kind at c × (past kind at c s.places o ≡ t)
    standing-reads Values t h = (0, tt, same-given _ t h)
    standing-reads PointsX t h = (0, tt, same-given _ t h)
    standing-reads PointsY t h = (0, tt, same-given _ t h)
    standing-reads CountX t h = by-x (count_at image g kind at n.x.most) refl h
      where
        by-x : (a : Answer ℕ) → count_at image g kind at n.x.most ≡ a → count_x_at at (shape_of kind).bytes s a ≡ given t → (c : ℕ) × Reads CountX kind at c × (past kind at c s.places CountX ≡ t)
        by-x (given c) q e = (c, at-counted image g kind at n.x.most c q, rw one (same-given _ t e))
        by-x (refused k) q e = absurd (never k t e)
    standing-reads CountY t h = by-y (count_at image g kind at n.y.most) refl h
      where
        by-y : (a : Answer ℕ) → count_at image g kind at n.y.most ≡ a → count_y_at at (shape_of kind).bytes s a ≡ given t → (c : ℕ) × Reads CountY kind at c × (past kind at c s.places CountY ≡ t)
        by-y (given c) q e = (c, at-counted image g kind at n.y.most c q, rw one (same-given _ t e))
        by-y (refused k) q e = absurd (never k t e)
