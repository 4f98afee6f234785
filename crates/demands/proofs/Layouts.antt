-- The rules of place as sentences, and as a layout is judged: the same.
--     layout-keeps      a layout keeps its rules exactly if it is judged sound
--     has-points, points-within, points-are      the points of an axis
use Prim.Native.Nat.{ℕ}
use mathlib.Core.Path.{◌≡◌, refl, sym, ◌∙◌}
use mathlib.Core.List.{List, [], ◌∷◌}
use mathlib.Core.Bool.{Bool, true, false, cond, not, ◌&&◌, ◌||◌, false≢true}
use mathlib.Core.Logic.{◌↔◌, inl, inr}
use borrow.Author.Tests.{eq-eqb, eqb-true, ltb-true, lt-ltb, leb-true, le-leb}
use lib.Dec.{eqb, ltb, leb}
use Rattle.text.proofs.Within.{and_left, and_right}
use Rattle.place.specs.Order.{parts}
use Rattle.place.specs.Rules.{both, apart, apart_from, all_apart, distinct, same, matching, comes_before, counted, sound_layout}
use Rattle.place.specs.Walk.{points_of, within}
use Rattle.place.specs.declared.order.Entry.{Entry}
use Rattle.place.specs.declared.order.Layout.{Layout}
use Rattle.place.specs.declared.order.Part.{Part}
use Rattle.place.specs.declared.rules.Axis.{Axis}
use Rattle.place.specs.declared.rules.Need.{Need}
use Rattle.place.specs.declared.walk.Ground.{Ground}
use Rattle.tree.specs.Tree.{Among}
use Rattle.keeps.proofs.Bits.{and}
use Rattle.demands.specs.Placed.{Before, LayoutKeeps, Counted, HasPoints}
use Rattle.demands.proofs.Ordering.{Differing}
use Rattle.demands.proofs.Roles.{differing}

-- ---- two parts
apart-means : (e f : Entry) → (apart e f ≡ true) ↔ (e.present ≡ true → f.present ≡ true → e.position ≡ f.position → ⊥)
unfolding apart both
apart-means e f = (λ h p q d. false≢true (rw (p, q, eq-eqb e.position f.position d) at h), λ k. back e.present f.present (eqb e.position f.position) refl refl refl k)
  where
    back : (a b c : Bool) → e.present ≡ a → f.present ≡ b → eqb e.position f.position ≡ c → (e.present ≡ true → f.present ≡ true → e.position ≡ f.position → ⊥) → not (a && b && c) ≡ true
    back true true true p q d k = absurd (k p q (eqb-true e.position f.position d))
    back true true false p q d k = refl
    back true false c p q d k = refl
    back false b c p q d k = refl

before-means : (e f : Entry) → (comes_before e f ≡ true) ↔ Before e f
unfolding comes_before both
before-means e f = (λ h p q. ltb-true e.position f.position (rw (p, q) at h), λ k. back e.present f.present refl refl k)
  where
    back : (a b : Bool) → e.present ≡ a → f.present ≡ b → Before e f → (not (a && b) || ltb e.position f.position) ≡ true
    back true true p q k = lt-ltb e.position f.position (k p q)
    back true false p q k = refl
    back false b p q k = refl

-- ---- needed and there
same-means : (a b : Bool) → (same a b ≡ true) ↔ (b ≡ a)
same-means true b = (λ e. e, λ e. e)
same-means false true = (λ e. sym e, λ e. sym e)
same-means false false = (λ e. refl, λ e. refl)

only-means : (a b : Bool) → ((a || not b) ≡ true) ↔ (b ≡ true → a ≡ true)
only-means true b = (λ h e. refl, λ k. refl)
only-means false true = (λ h e. h, λ k. k refl)
only-means false false = (λ h e. e, λ k. refl)

-- ---- all of them
abbrev entries : List Part → List Entry
entries [] = []
entries (p ∷ ps) = p.entry ∷ entries ps

abbrev Apart : List Part → Type 0
Apart ps = (r q : Part) → Among r ps → Among q ps → r.entry.present ≡ true → q.entry.present ≡ true → r.entry.position ≡ q.entry.position → r.role ≡ q.role

from-apart : (e : Entry) (ps : List Part) → apart_from e (entries ps) ≡ true → (q : Part) → Among q ps → apart e q.entry ≡ true
unfolding apart_from
from-apart e [] h q m = elim m [ ]
from-apart e (p ∷ ps) h q (inl d) = rw d (and_left (apart e p.entry) (apart_from e (entries ps)) h)
from-apart e (p ∷ ps) h q (inr m) = from-apart e ps (and_right (apart e p.entry) (apart_from e (entries ps)) h) q m

apart_from_lem : (e : Entry) (ps : List Part) → ((q : Part) → Among q ps → apart e q.entry ≡ true) → apart_from e (entries ps) ≡ true
unfolding apart_from
apart_from_lem e [] k = refl
apart_from_lem e (p ∷ ps) k = and (k p (inl refl)) (apart_from_lem e ps (λ q m. k q (inr m)))

all_apart_lem : (ps : List Part) → all_apart (entries ps) ≡ true → Apart ps
unfolding all_apart
all_apart_lem [] h r q m m' f f' e = elim m [ ]
all_apart_lem (p ∷ ps) h r q (inl d) (inl d') f f' e = rw (d, d')
all_apart_lem (p ∷ ps) h r q (inl d) (inr m) f f' e =
    absurd ((apart-means r.entry q.entry).0 (rw d (from-apart p.entry ps (and_left (apart_from p.entry (entries ps)) (all_apart (entries ps)) h) q m)) f f' e)
all_apart_lem (p ∷ ps) h r q (inr m) (inl d) f f' e =
    absurd ((apart-means q.entry r.entry).0 (rw d (from-apart p.entry ps (and_left (apart_from p.entry (entries ps)) (all_apart (entries ps)) h) r m)) f' f (sym e))
all_apart_lem (p ∷ ps) h r q (inr m) (inr m') f f' e = all_apart_lem ps (and_right (apart_from p.entry (entries ps)) (all_apart (entries ps)) h) r q m m' f f' e

apart-all : (ps : List Part) → Differing ps → Apart ps → all_apart (entries ps) ≡ true
unfolding all_apart
apart-all [] d k = refl
apart-all (p ∷ ps) d k =
    and (apart_from_lem p.entry ps (λ q m. (apart-means p.entry q.entry).1 (λ f f' e. d.0 q m (sym (k p q (inl refl) (inr m) f f' e)))))
    (apart-all ps d.1 (λ r q m m'. k r q (inr m) (inr m')))

-- ---- a layout
module _ (n : Need) (l : Layout) where
  sound-keeps : sound_layout n l ≡ true → LayoutKeeps n l
  unfolding sound_layout matching distinct counted parts
  sound-keeps h =
      let a = same n.values l.values.present in
      let b = same n.x.stored l.x.present in
      let c = same n.y.stored l.y.present in
      let d = n.x.stored || not l.nx.present in
      let e = n.y.stored || not l.ny.present in
      let u = all_apart (entries (parts l)) in
      let v = comes_before l.nx l.x in
      let w = comes_before l.nx l.values in
      let y = comes_before l.ny l.y in
      let z = comes_before l.ny l.values in
      let m : (a && b && c && d && e && u) ≡ true = and_left (a && b && c && d && e && u) (v && w && y && z) h in
      let r : (v && w && y && z) ≡ true = and_right (a && b && c && d && e && u) (v && w && y && z) h in
      let m5 : (a && b && c && d && e) ≡ true = and_left (a && b && c && d && e) u m in
      let m4 : (a && b && c && d) ≡ true = and_left (a && b && c && d) e m5 in
      let m3 : (a && b && c) ≡ true = and_left (a && b && c) d m4 in
      let m2 : (a && b) ≡ true = and_left (a && b) c m3 in
      let r3 : (v && w && y) ≡ true = and_left (v && w && y) z r in
      let r2 : (v && w) ≡ true = and_left (v && w) y r3 in
      record {
        has_values = (same-means n.values l.values.present).0 (and_left a b m2);
        has_x = (same-means n.x.stored l.x.present).0 (and_right a b m2);
        has_y = (same-means n.y.stored l.y.present).0 (and_right (a && b) c m3);
        beside_x = (only-means n.x.stored l.nx.present).0 (and_right (a && b && c) d m4);
        beside_y = (only-means n.y.stored l.ny.present).0 (and_right (a && b && c && d) e m5);
        apart = λ i j f f'. all_apart_lem (parts l) (and_right (a && b && c && d && e) u m) i j f.0 f'.0 f.1 f'.1;
        before_x = (before-means l.nx l.x).0 (and_left v w r2);
        before_y = (before-means l.ny l.y).0 (and_right (v && w) y r3);
        before_values = ((before-means l.nx l.values).0 (and_right v w r2), (before-means l.ny l.values).0 (and_right (v && w && y) z r));
      }

  keeps-sound : LayoutKeeps n l → sound_layout n l ≡ true
  unfolding sound_layout matching distinct counted parts
  keeps-sound k =
      and (and (and (and (and (and ((same-means n.values l.values.present).1 k.has_values) ((same-means n.x.stored l.x.present).1 k.has_x)) ((same-means n.y.stored l.y.present).1 k.has_y))
      ((only-means n.x.stored l.nx.present).1 k.beside_x)) ((only-means n.y.stored l.ny.present).1 k.beside_y)) (apart-all (parts l) (differing l) (λ i j m m' f f'. k.apart i j (m, f) (m', f'))))
      (and (and (and ((before-means l.nx l.x).1 k.before_x) ((before-means l.nx l.values).1 k.before_values.0)) ((before-means l.ny l.y).1 k.before_y))
      ((before-means l.ny l.values).1 k.before_values.1))

  pub layout-keeps : (sound_layout n l ≡ true) ↔ LayoutKeeps n l
  layout-keeps = (sound-keeps, keeps-sound)

-- ---- the points of an axis
module _ (image : List ℕ) (g : Ground) (a : Axis) (e : Entry) (at c : ℕ) where
  pub has-points : (e.present ≡ true → a.stored ≡ true) → within a ≡ true → (e.present ≡ true → Counted image g e.kind at a.most c) → (e.present ≡ false → c ≡ points_of a)
      → HasPoints image g a e at c
  unfolding within points_of
  has-points b w k u = record { counted = k; uncounted = λ s f. rw s at (u f); shared = λ s. (points s, rw (points s) (leb-true a.points a.most (rw s at w))) }
    where
      none : (p : Bool) → e.present ≡ p → a.stored ≡ false → e.present ≡ false
      none true f s = absurd (false≢true (sym s ∙ b f))
      none false f s = f

      points : a.stored ≡ false → c ≡ a.points
      points s = rw s at (u (none e.present refl s))

  module _ (k : HasPoints image g a e at c) where
    pub points-within : within a ≡ true
    unfolding within
    points-within = go a.stored refl
      where
        go : (s : Bool) → a.stored ≡ s → (s || leb a.points a.most) ≡ true
        go true h = refl
        go false h = le-leb a.points a.most (rw (← (k.shared h).0) (k.shared h).1)

    pub points-are : e.present ≡ false → c ≡ points_of a
    unfolding points_of
    points-are f = go a.stored refl
      where
        go : (s : Bool) → a.stored ≡ s → c ≡ cond s a.most a.points
        go true h = k.uncounted h f
        go false h = (k.shared h).0
