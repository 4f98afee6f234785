-- What is known of each object of a description whose objects were all accepted.
use Prim.Native.Nat.{ℕ, ◌≤◌}
use mathlib.Core.Path.{◌≡◌, refl, subst}
use mathlib.Core.List.{List, [], ◌∷◌}
use mathlib.Core.Bool.{Bool, true, false, cond, ◌&&◌}
use mathlib.Core.Logic.{◌⊎◌, inl, inr}
use native.Mathlib.Omega.{arith}
use borrow.Author.Tests.{leb-true}
use lib.Dec.{eqb, leb}
use lib.IntN.{ℤ, pos, negsuc}
use Rattle.number.specs.Answer.{Answer, given, refused}
use Rattle.text.proofs.Within.{and_left, by-test}
use Rattle.number.specs.Most.{most_elements}
use Rattle.cell.specs.Kind.{shape_of}
use Rattle.rows.specs.Codes.{AXIS-PTS, CHARACTERISTIC, VAL-BLK, CURVE, MAP, COM-AXIS}
use Rattle.rows.specs.Sections.{object, axis}
use Rattle.rows.specs.Slots.{block_code, object_type, axis_attribute}
use Rattle.grammar.specs.Move.{View}
use Rattle.place.specs.Inside.{inside}
use Rattle.place.specs.Judge.{all_inside}
use Rattle.place.specs.Order.{in_order, parts}
use Rattle.place.specs.Rules.{matching, distinct, counted, sound_layout}
use Rattle.place.specs.Walk.{start_of, count_stored, count_at, points_of, within, count_x_at, count_y_at, standing, place_one, step, all_placed, start, placement}
use Rattle.place.specs.Align.{alignment}
use Rattle.place.specs.declared.judge.Standing.{Standing}
use Rattle.place.specs.declared.order.Layout.{Layout}
use Rattle.place.specs.declared.order.Part.{Part}
use Rattle.place.specs.declared.order.Role.{Role}
use Rattle.place.specs.declared.order.Role.TheVariants.{Values, PointsX, PointsY, CountX, CountY}
use Rattle.place.specs.declared.rules.Axis.{Axis}
use Rattle.place.specs.declared.rules.Need.{Need}
use Rattle.place.specs.declared.walk.Ground.{Ground}
use Rattle.place.specs.declared.walk.Reached.{Reached}
use Rattle.place.proofs.Stored.{Held, HeldIn, placement-holds}
use Rattle.objects.specs.Object.{layout_of, ground_of, no_axis, value_need, axis_pts_need, block_need, axis_at, axis_need, curve_need, map_need, characteristic_need, need_of, mask_fits, places_of, elements_of}
use Rattle.objects.proofs.Shares.{Share}

-- ---- what an object needs

-- an axis that is stored has at most 256 points; values have one row, or two axes of at most 256 points
pub record Modest (n : Need) : Type 0 where
  pub few_x : n.x.stored ≡ true → n.x.most ≤ 256
  pub few_y : n.y.stored ≡ true → n.y.most ≤ 256
  pub row : (n.y ≡ no_axis) ⊎ ((n.x.most ≤ 256) × (n.y.most ≤ 256))

module _ (image : List ℕ) (base : ℕ) (x : List ℕ) (v : View) where
  axis-few : (a : ℕ) → (axis_need image base x v a).most ≤ 256
  unfolding axis_need
  axis-few a = by-test (λ (z : Axis). z.most ≤ 256) (eqb (v.slots axis a axis_attribute) COM-AXIS) (λ t. omega arith) (λ t. omega arith)

  block-modest : (i : ℕ) → Modest (block_need v i)
  unfolding block_need
  block-modest i = record { few_x = λ e. let z : ◌≡◌ {A = ℕ} 0 1 = cc in absurd (omega arith); few_y = λ e. let z : ◌≡◌ {A = ℕ} 0 1 = cc in absurd (omega arith); row = inl refl }

  points-modest : (i : ℕ) → Modest (axis_pts_need v i)
  unfolding axis_pts_need
  points-modest i = record { few_x = λ e. omega arith; few_y = λ e. let z : ◌≡◌ {A = ℕ} 0 1 = cc in absurd (omega arith); row = inl refl }

  value-modest : Modest value_need
  value-modest = record { few_x = λ e. let z : ◌≡◌ {A = ℕ} 0 1 = cc in absurd (omega arith); few_y = λ e. let z : ◌≡◌ {A = ℕ} 0 1 = cc in absurd (omega arith); row = inl refl }

  curve-modest : (i : ℕ) → Modest (curve_need image base x v i)
  unfolding curve_need
  curve-modest i = record { few_x = λ e. axis-few (axis_at v i 0); few_y = λ e. let z : ◌≡◌ {A = ℕ} 0 1 = cc in absurd (omega arith); row = inl refl }

  map-modest : (i : ℕ) → Modest (map_need image base x v i)
  unfolding map_need
  map-modest i = record { few_x = λ e. axis-few (axis_at v i 0); few_y = λ e. axis-few (axis_at v i 1); row = inr (axis-few (axis_at v i 0), axis-few (axis_at v i 1)) }

  characteristic-modest : (i : ℕ) → Modest (characteristic_need image base x v i)
  unfolding characteristic_need
  characteristic-modest i =
      by-test Modest (eqb (v.slots object i object_type) VAL-BLK) (λ t. block-modest i)
      (λ t. by-test Modest (eqb (v.slots object i object_type) CURVE) (λ s. curve-modest i)
      (λ s. by-test Modest (eqb (v.slots object i object_type) MAP) (λ r. map-modest i) (λ r. value-modest)))

  pub need-modest : (i : ℕ) → Modest (need_of image base x v i)
  unfolding need_of
  need-modest i =
      by-test Modest (eqb (v.slots object i block_code) AXIS-PTS) (λ t. points-modest i)
      (λ t. by-test Modest (eqb (v.slots object i block_code) CHARACTERISTIC) (λ s. characteristic-modest i) (λ s. value-modest))

-- ---- what placement keeps besides

module _ (g : Ground) (n : Need) (image : List ℕ) where
  -- x and y have points where the need gives them some
  abbrev Points : Answer Reached → Type 0
  Points (given s) = (1 ≤ points_of n.x → 1 ≤ s.places.cx) × (1 ≤ points_of n.y → 1 ≤ s.places.cy)
  Points (refused k) = Unit {0}

  abbrev Some : Answer ℕ → Type 0
  Some (given m) = 1 ≤ m
  Some (refused k) = Unit {0}

  in-turn : (m : ℕ) (a b : Bool) → leb 1 m ≡ a → Some (cond (a && b) (given m) (refused 13))
  in-turn m true true e = leb-true 1 m e
  in-turn m true false e = tt
  in-turn m false b e = tt

  in_some : (most : ℕ) (z : ℤ) → Some (count_stored most z)
  unfolding count_stored
  in_some most (pos m) = in-turn m (leb 1 m) (leb m most) refl
  in_some most (negsuc m) = tt

  at_some : (kind at most : ℕ) → Some (count_at image g kind at most)
  unfolding count_at
  at_some kind at most = by-test Some (inside image g.base at (shape_of kind).bytes) (λ t. in_some most _) (λ t. tt)

  x-points : (at bytes : ℕ) (s : Reached) (c : Answer ℕ) → Some c → Points (given s) → Points (count_x_at at bytes s c)
  x-points at bytes s (given m) o h = (λ e. o, h.1)
  x-points at bytes s (refused k) o h = tt

  y-points : (at bytes : ℕ) (s : Reached) (c : Answer ℕ) → Some c → Points (given s) → Points (count_y_at at bytes s c)
  y-points at bytes s (given m) o h = (h.0, λ e. o)
  y-points at bytes s (refused k) o h = tt

  stand-points : (kind at : ℕ) (s : Reached) (r : Role) → Points (given s) → Points (standing g n image kind at s r)
  stand-points kind at s Values h = h
  stand-points kind at s PointsX h = h
  stand-points kind at s PointsY h = h
  stand-points kind at s CountX h = x-points at (shape_of kind).bytes s (count_at image g kind at n.x.most) (at_some kind at n.x.most) h
  stand-points kind at s CountY h = y-points at (shape_of kind).bytes s (count_at image g kind at n.y.most) (at_some kind at n.y.most) h

  one-points : (s : Reached) (p : Part) → Points (given s) → Points (place_one g n image s p)
  unfolding place_one
  one-points s p h = stand-points p.entry.kind (start_of (alignment g.aligns (shape_of p.entry.kind)) s) s p.role h

  step-points : (a : Answer Reached) (p : Part) → Points a → Points (step g n image a p)
  step-points (given s) p h = by-test Points p.entry.present (λ t. one-points s p h) (λ t. h)
  step-points (refused k) p h = tt

  all-points : (ps : List Part) (a : Answer Reached) → Points a → Points (all_placed g n image a ps)
  unfolding all_placed
  all-points [] a h = h
  all-points (p ∷ ps) a h = all-points ps (step g n image a p) (step-points a p h)

  start-points : Points (given (start g n))
  unfolding start
  start-points = (λ e. e, λ e. e)

  module _ (l : Layout) where
    placed-points : Points (placement g n image l)
    unfolding placement
    placed-points =
        by-test Points (sound_layout n l)
        (λ t. by-test Points (within n.x && within n.y) (λ s. all-points (in_order (parts l)) (given (start g n)) start-points) (λ s. tt))
        (λ t. tt)

    -- a placement that was reached has a sound layout
    abbrev Sounds : Answer Reached → Type 0
    Sounds (given s) = sound_layout n l ≡ true
    Sounds (refused k) = Unit {0}

    all-given : sound_layout n l ≡ true → (a : Answer Reached) → Sounds a
    all-given e (given s) = e
    all-given e (refused k) = tt

    placed-sounds : Sounds (placement g n image l)
    unfolding placement
    placed-sounds = by-test Sounds (sound_layout n l) (λ t. all-given t (cond (within n.x && within n.y) (all_placed g n image (given (start g n)) (in_order (parts l))) (refused 13))) (λ t. tt)

-- where there is no axis there is one point
pub one-point : (a : Axis) → a ≡ no_axis → 1 ≤ points_of a
unfolding points_of
one-point a e = rw e (omega arith)

-- ---- each object

pub record Stood (image : List ℕ) (base : ℕ) (x : List ℕ) (v : View) (i : ℕ) : Type 0 where
  pub masked : mask_fits x v i ≡ true
  pub matched : matching (need_of image base x v i) (layout_of x v i) ≡ true
  pub held : Held (ground_of x v base i) (need_of image base x v i) image (layout_of x v i) (layout_of x v i).nx.present (layout_of x v i).ny.present (places_of image base x v i)
  pub bytes_in : all_inside image base (need_of image base x v i) (layout_of x v i) (places_of image base x v i) ≡ true
  pub few : elements_of image base x v i ≤ most_elements
  pub some_x : 1 ≤ points_of (need_of image base x v i).x → 1 ≤ (places_of image base x v i).cx
  pub some_y : 1 ≤ points_of (need_of image base x v i).y → 1 ≤ (places_of image base x v i).cy

module _ (image : List ℕ) (base : ℕ) (x : List ℕ) (v : View) (i used : ℕ) (s : Standing) (h : Share image base x v i used s) where
  places-are : places_of image base x v i ≡ h.reached.places
  unfolding places_of
  places-are = rw h.placed

  sound-match : (n : Need) (l : Layout) → sound_layout n l ≡ true → matching n l ≡ true
  unfolding sound_layout
  sound-match n l e = and_left (matching n l) (distinct l) (and_left (matching n l && distinct l) (counted l) e)

  pub share-stood : Stood image base x v i
  share-stood =
      let n : Need = need_of image base x v i in
      let l : Layout = layout_of x v i in
      record {
        masked = h.mask;
        matched = sound-match n l (subst (Sounds (ground_of x v base i) n image l) h.placed (placed-sounds (ground_of x v base i) n image l));
        held = rw places-are (subst (HeldIn (ground_of x v base i) n image l l.nx.present l.ny.present) h.placed (placement-holds (ground_of x v base i) n image l));
        bytes_in = h.inside;
        few = omega (arith, h.total, h.most);
        some_x = λ e. rw places-are ((subst (Points (ground_of x v base i) n image) h.placed (placed-points (ground_of x v base i) n image l)).0 e);
        some_y = λ e. rw places-are ((subst (Points (ground_of x v base i) n image) h.placed (placed-points (ground_of x v base i) n image l)).1 e);
      }
