-- What placement keeps: each stored count lies inside the image, and an axis has at most its most points.
use Prim.Native.Nat.{ℕ, ◌≤◌}
use native.Mathlib.Omega.{arith}
use mathlib.Core.Path.{◌≡◌, refl, subst}
use mathlib.Core.List.{List, [], ◌∷◌}
use mathlib.Core.Bool.{Bool, true, false, cond, ◌&&◌, ◌||◌}
use borrow.Author.Tests.{leb-true}
use lib.Dec.{leb, ltb}
use lib.IntN.{ℤ, pos, negsuc}
use Rattle.number.specs.Answer.{Answer, given, refused}
use Rattle.cell.specs.Kind.{shape_of}
use Rattle.place.specs.Align.{alignment}
use Rattle.place.specs.Inside.{inside}
use Rattle.place.specs.Order.{insert, in_order, parts}
use Rattle.place.specs.Rules.{sound_layout}
use Rattle.place.specs.Walk.{start_of, count_stored, count_at, points_of, within, count_x_at, count_y_at, standing, place_one, step, all_placed, start, placement}
use Rattle.place.specs.declared.order.Entry.{Entry}
use Rattle.place.specs.declared.order.Layout.{Layout}
use Rattle.place.specs.declared.order.Part.{Part}
use Rattle.place.specs.declared.order.Role.{Role}
use Rattle.place.specs.declared.order.Role.TheVariants.{Values, PointsX, PointsY, CountX, CountY}
use Rattle.place.specs.declared.rules.Axis.{Axis}
use Rattle.place.specs.declared.rules.Need.{Need}
use Rattle.place.specs.declared.walk.Ground.{Ground}
use Rattle.place.specs.declared.walk.Places.{Places}
use Rattle.place.specs.declared.walk.Reached.{Reached}

-- which part is a count that stands
abbrev pub counts_x : Role → Bool → Bool
counts_x Values b = false
counts_x PointsX b = false
counts_x PointsY b = false
counts_x CountX b = b
counts_x CountY b = false

abbrev pub counts_y : Role → Bool → Bool
counts_y Values b = false
counts_y PointsX b = false
counts_y PointsY b = false
counts_y CountX b = false
counts_y CountY b = b

abbrev pub any_x : List Part → Bool
any_x [] = false
any_x (p ∷ ps) = counts_x p.role p.entry.present || any_x ps

abbrev pub any_y : List Part → Bool
any_y [] = false
any_y (p ∷ ps) = counts_y p.role p.entry.present || any_y ps

-- the count parts of a list are the layout's
abbrev Own : Layout → Role → Entry → Type 0
Own l Values e = Unit {0}
Own l PointsX e = Unit {0}
Own l PointsY e = Unit {0}
Own l CountX e = e ≡ l.nx
Own l CountY e = e ≡ l.ny

abbrev AllOwn : Layout → List Part → Type 0
AllOwn l [] = Unit {0}
AllOwn l (p ∷ ps) = Own l p.role p.entry × AllOwn l ps

-- ---- in order of Position the same parts stand

own_turn : (l : Layout) (t : Bool) (p q : Part) (qs rs : List Part) → Own l p.role p.entry → AllOwn l (q ∷ qs) → AllOwn l rs → AllOwn l (cond t (p ∷ q ∷ qs) (q ∷ rs))
own_turn l true p q qs rs h f g = (h, f)
own_turn l false p q qs rs h f g = (f.0, g)

own-insert : (l : Layout) (p : Part) (qs : List Part) → Own l p.role p.entry → AllOwn l qs → AllOwn l (insert p qs)
unfolding insert
own-insert l p [] h f = (h, tt)
own-insert l p (q ∷ qs) h f = own_turn l (ltb p.entry.position q.entry.position) p q qs (insert p qs) h f (own-insert l p qs h f.1)

own-order : (l : Layout) (ps : List Part) → AllOwn l ps → AllOwn l (in_order ps)
unfolding in_order
own-order l [] f = tt
own-order l (p ∷ ps) f = own-insert l p (in_order ps) f.0 (own-order l ps f.1)

or_swap : (a b c : Bool) → a || (b || c) ≡ b || (a || c)
or_swap true true c = refl
or_swap true false c = refl
or_swap false true c = refl
or_swap false false c = refl

module _ (any : List Part → Bool) (one : Part → Bool) (e : (p : Part) (ps : List Part) → any (p ∷ ps) ≡ one p || any ps) where
  any-turn : (t : Bool) (p q : Part) (qs rs : List Part) → any rs ≡ one p || any qs → any (cond t (p ∷ q ∷ qs) (q ∷ rs)) ≡ one p || any (q ∷ qs)
  any-turn true p q qs rs h = e p (q ∷ qs)
  any-turn false p q qs rs h = rw (e q rs, e q qs, h) (or_swap (one q) (one p) (any qs))

  any-insert : (p : Part) (qs : List Part) → any (insert p qs) ≡ one p || any qs
  unfolding insert
  any-insert p [] = e p []
  any-insert p (q ∷ qs) = any-turn (ltb p.entry.position q.entry.position) p q qs (insert p qs) (any-insert p qs)

  any_order : (ps : List Part) → any (in_order ps) ≡ any ps
  unfolding in_order
  any_order [] = refl
  any_order (p ∷ ps) = rw (any-insert p (in_order ps), any_order ps, e p ps) refl

-- ---- the walk

module _ (g : Ground) (n : Need) (image : List ℕ) (l : Layout) where
  -- so many bytes of a count part at an address are bytes of the image
  abbrev pub CountInside : Entry → ℕ → Type 0
  CountInside e at = inside image g.base at (shape_of e.kind).bytes ≡ true

  -- a and b: the count of x, of y was placed
  pub record Held (a b : Bool) (p : Places) : Type 0 where
    pub count_x : a ≡ true → CountInside l.nx p.nx
    pub count_y : b ≡ true → CountInside l.ny p.ny
    pub points_x : p.cx ≤ n.x.most
    pub points_y : p.cy ≤ n.y.most

  abbrev pub HeldIn : Bool → Bool → Answer Reached → Type 0
  HeldIn a b (given s) = Held a b s.places
  HeldIn a b (refused k) = Unit {0}

  -- a count that was read is inside the image and at most its most
  abbrev Counted : ℕ → Entry → ℕ → Answer ℕ → Type 0
  Counted most e at (given m) = CountInside e at × (m ≤ most)
  Counted most e at (refused k) = Unit {0}

  read-turn : (most : ℕ) (e : Entry) (at m : ℕ) (a b : Bool) → CountInside e at → leb m most ≡ b → Counted most e at (cond (a && b) (given m) (refused 13))
  read-turn most e at m true true h f = (h, leb-true m most f)
  read-turn most e at m true false h f = tt
  read-turn most e at m false b h f = tt

  read-fine : (most : ℕ) (e : Entry) (at : ℕ) (z : ℤ) → CountInside e at → Counted most e at (count_stored most z)
  unfolding count_stored
  read-fine most e at (pos m) h = read-turn most e at m (leb 1 m) (leb m most) h refl
  read-fine most e at (negsuc m) h = tt

  count_turn : (most : ℕ) (e : Entry) (at : ℕ) (z : ℤ) (t : Bool) → inside image g.base at (shape_of e.kind).bytes ≡ t → Counted most e at (cond t (count_stored most z) (refused 12))
  count_turn most e at z true h = read-fine most e at z h
  count_turn most e at z false h = tt

  count-fine : (most : ℕ) (e : Entry) (at : ℕ) → Counted most e at (count_at image g e.kind at most)
  unfolding count_at
  count-fine most e at = count_turn most e at _ (inside image g.base at (shape_of e.kind).bytes) refl

  or_right : (a : Bool) → a || false ≡ a
  or_right true = refl
  or_right false = refl

  x-fine : (a b : Bool) (e : Entry) (at bytes : ℕ) (s : Reached) (c : Answer ℕ) → e ≡ l.nx → Held a b s.places → Counted n.x.most e at c → HeldIn true b (count_x_at at bytes s c)
  x-fine a b e at bytes s (given m) o h c = record { count_x = λ _. subst (λ z. CountInside z at) o c.0; count_y = h.count_y; points_x = c.1; points_y = h.points_y }
  x-fine a b e at bytes s (refused k) o h c = tt

  y-fine : (a b : Bool) (e : Entry) (at bytes : ℕ) (s : Reached) (c : Answer ℕ) → e ≡ l.ny → Held a b s.places → Counted n.y.most e at c → HeldIn a true (count_y_at at bytes s c)
  y-fine a b e at bytes s (given m) o h c = record { count_x = h.count_x; count_y = λ _. subst (λ z. CountInside z at) o c.0; points_x = h.points_x; points_y = c.1 }
  y-fine a b e at bytes s (refused k) o h c = tt

  or-true : (a : Bool) → a || true ≡ true
  or-true true = refl
  or-true false = refl

  -- a part that stands
  one-fine : (a b : Bool) (r : Role) (e : Entry) (at : ℕ) (s : Reached) → Own l r e → Held a b s.places
      → HeldIn (a || counts_x r true) (b || counts_y r true) (standing g n image e.kind at s r)
  one-fine a b Values e at s o h = rw (or_right a, or_right b) (record { count_x = h.count_x; count_y = h.count_y; points_x = h.points_x; points_y = h.points_y })
  one-fine a b PointsX e at s o h = rw (or_right a, or_right b) (record { count_x = h.count_x; count_y = h.count_y; points_x = h.points_x; points_y = h.points_y })
  one-fine a b PointsY e at s o h = rw (or_right a, or_right b) (record { count_x = h.count_x; count_y = h.count_y; points_x = h.points_x; points_y = h.points_y })
  one-fine a b CountX e at s o h = rw (or-true a, or_right b) (x-fine a b e at (shape_of e.kind).bytes s (count_at image g e.kind at n.x.most) o h (count-fine n.x.most e at))
  one-fine a b CountY e at s o h = rw (or_right a, or-true b) (y-fine a b e at (shape_of e.kind).bytes s (count_at image g e.kind at n.y.most) o h (count-fine n.y.most e at))

  -- a part that the layout has not counts as none
  off-x : (r : Role) → counts_x r false ≡ false
  off-x Values = refl
  off-x PointsX = refl
  off-x PointsY = refl
  off-x CountX = refl
  off-x CountY = refl

  off-y : (r : Role) → counts_y r false ≡ false
  off-y Values = refl
  off-y PointsX = refl
  off-y PointsY = refl
  off-y CountX = refl
  off-y CountY = refl

  step-turn : (a b t : Bool) (s : Reached) (p : Part) → Own l p.role p.entry → Held a b s.places
      → HeldIn (a || counts_x p.role t) (b || counts_y p.role t) (cond t (place_one g n image s p) (given s))
  unfolding place_one
  step-turn a b true s p o h = one-fine a b p.role p.entry (start_of (alignment g.aligns (shape_of p.entry.kind)) s) s o h
  step-turn a b false s p o h = rw (off-x p.role, off-y p.role, or_right a, or_right b) h

  step-fine : (a b : Bool) (r : Answer Reached) (p : Part) → Own l p.role p.entry → HeldIn a b r
      → HeldIn (a || counts_x p.role p.entry.present) (b || counts_y p.role p.entry.present) (step g n image r p)
  step-fine a b (given s) p o h = step-turn a b p.entry.present s p o h
  step-fine a b (refused k) p o h = tt

  or_assoc : (a b c : Bool) → (a || b) || c ≡ a || (b || c)
  or_assoc true b c = refl
  or_assoc false b c = refl

  all-fine : (ps : List Part) (a b : Bool) (r : Answer Reached) → AllOwn l ps → HeldIn a b r → HeldIn (a || any_x ps) (b || any_y ps) (all_placed g n image r ps)
  unfolding all_placed
  all-fine [] a b r o h = rw (or_right a, or_right b) h
  all-fine (p ∷ ps) a b r o h =
      rw (or_assoc a (counts_x p.role p.entry.present) (any_x ps), or_assoc b (counts_y p.role p.entry.present) (any_y ps)) at
      (all-fine ps (a || counts_x p.role p.entry.present) (b || counts_y p.role p.entry.present) (step g n image r p) o.1 (step-fine a b r p o.0 h))

  points-turn : (a : Axis) (s : Bool) → s || leb a.points a.most ≡ true → cond s a.most a.points ≤ a.most
  points-turn a true h = omega arith
  points-turn a false h = leb-true a.points a.most h

  points-fine : (a : Axis) → within a ≡ true → points_of a ≤ a.most
  unfolding within points_of
  points-fine a h = points-turn a a.stored h

  start_fine : within n.x ≡ true → within n.y ≡ true → HeldIn false false (given (start g n))
  unfolding start
  start_fine h k = record { count_x = λ e. absurd (false-true e); count_y = λ e. absurd (false-true e); points_x = points-fine n.x h; points_y = points-fine n.y k }
    where
      false-true : false ≡ true → ⊥
      false-true e = subst (λ (b : Bool). cond b ⊥ (Unit {0})) e tt

  any-x : any_x (parts l) ≡ l.nx.present
  unfolding parts
  any-x = or_right l.nx.present

  any-y : any_y (parts l) ≡ l.ny.present
  unfolding parts
  any-y = or_right l.ny.present

  own-parts : AllOwn l (parts l)
  unfolding parts
  own-parts = (tt, (tt, (tt, (refl, (refl, tt)))))

  -- the counts that the layout has lie inside the image, and no axis has more points than its most
  placed-turn : (a b c : Bool) → within n.x ≡ b → within n.y ≡ c
      → HeldIn l.nx.present l.ny.present (cond a (cond (b && c) (all_placed g n image (given (start g n)) (in_order (parts l))) (refused 13)) (refused 11))
  placed-turn true true true h k =
      rw (any_order any_x (λ p. counts_x p.role p.entry.present) (λ p ps. refl) (parts l), any-x, any_order any_y (λ p. counts_y p.role p.entry.present) (λ p ps. refl) (parts l), any-y) at
      (all-fine (in_order (parts l)) false false (given (start g n)) (own-order l (parts l) own-parts) (start_fine h k))
  placed-turn true true false h k = tt
  placed-turn true false c h k = tt
  placed-turn false b c h k = tt

  pub placement-holds : HeldIn l.nx.present l.ny.present (placement g n image l)
  unfolding placement
  placement-holds = placed-turn (sound_layout n l) (within n.x) (within n.y) refl refl
