-- The rules of the stages after the text as sentences, and as the stages judge them: the same (`keeps`, Accepted).
use Prim.Native.Nat.{ℕ, ◌+◌, ◌*◌, ◌^◌, ◌≤◌, ◌<◌}
use mathlib.Core.Path.{◌≡◌, refl, subst}
use mathlib.Core.List.{List}
use mathlib.Core.Bool.{Bool, true, false, not, ◌&&◌, ◌||◌, false≢true}
use native.Mathlib.Omega.{arith}
use borrow.Author.Tests.{not-true, eqb-false, ne_eqb, ltb-true, lt-ltb, le-leb}
use lib.Dec.{eqb, ltb}
use lib.ListN.{length}
use Rattle.text.proofs.Within.{and_left, and_right}
use Rattle.number.specs.Answer.{Answer, given, refused}
use Rattle.number.specs.Form.{is_given}
use Rattle.records.specs.Records.{count, slot}
use Rattle.rows.specs.Sections.{object}
use Rattle.rows.specs.Slots.{bit_mask_seen, bit_mask}
use Rattle.grammar.specs.Move.{View, view}
use Rattle.cell.specs.Kind.{shape_of}
use Rattle.cell.specs.Mask.{mask_rule}
use Rattle.cell.specs.declared.kind.Shape.{Shape}
use Rattle.place.specs.Inside.{inside}
use Rattle.place.specs.Judge.{bytes_of, all_inside}
use Rattle.place.specs.Walk.{placement}
use Rattle.place.specs.declared.order.Layout.{Layout}
use Rattle.place.specs.declared.rules.Need.{Need}
use Rattle.place.specs.declared.walk.Places.{Places}
use Rattle.place.specs.declared.walk.Reached.{Reached}
use Rattle.objects.specs.Object.{layout_of, ground_of, need_of, mask_fits, places_in, places_of}
use Rattle.tree.specs.Tree.{Records, Description}
use Rattle.keeps.specs.Accepted.{Accepted}
use Rattle.keeps.specs.Stands.{Part, points_x, points_y, values, needed, address_of, type_of, across_of, down_of}
use Rattle.keeps.proofs.Bits.{and}
use Rattle.keeps.proofs.Groups.{inside-all}
use Rattle.demands.specs.Rules.{MaskKeeps, ObjectKeeps, Keeps}
use Rattle.demands.proofs.Placing.{placed-exactly}
use Rattle.demands.proofs.Leading.{leads-exactly}
use Rattle.demands.proofs.Sounding.{method-keeps}

-- ---- masks
mask-keeps : (t : Shape) (m : ℕ) → mask_rule t m ≡ true → MaskKeeps t m
unfolding mask_rule
mask-keeps t m h =
    let ab : (not t.signed && ltb 0 m) ≡ true = and_left (not t.signed && ltb 0 m) (ltb m (256 ^ t.bytes)) h in
    record {
      unsigned = not-true t.signed (and_left (not t.signed) (ltb 0 m) ab);
      some = ltb-true 0 m (and_right (not t.signed) (ltb 0 m) ab);
      inside = ltb-true m (256 ^ t.bytes) (and_right (not t.signed && ltb 0 m) (ltb m (256 ^ t.bytes)) h);
    }

keeps-mask : (t : Shape) (m : ℕ) → MaskKeeps t m → mask_rule t m ≡ true
unfolding mask_rule
keeps-mask t m k = rw (k.unsigned, lt-ltb 0 m k.some, lt-ltb m (256 ^ t.bytes) k.inside)

module _ (x : List ℕ) (v : View) (i : ℕ) where
  abbrev Masked : Type 0
  Masked = (v.slots object i bit_mask_seen ≡ 0 → ⊥) → MaskKeeps (shape_of (layout_of x v i).values.kind) (v.slots object i bit_mask)

  fits-masked : mask_fits x v i ≡ true → Masked
  unfolding mask_fits
  fits-masked h z = mask-keeps (shape_of (layout_of x v i).values.kind) (v.slots object i bit_mask) (rw (ne_eqb (v.slots object i bit_mask_seen) 0 z) at h)

  masked-fits : Masked → mask_fits x v i ≡ true
  unfolding mask_fits
  masked-fits k = go (eqb (v.slots object i bit_mask_seen) 0) refl
    where
      go : (b : Bool) → eqb (v.slots object i bit_mask_seen) 0 ≡ b → (b || mask_rule (shape_of (layout_of x v i).values.kind) (v.slots object i bit_mask)) ≡ true
      go true e = refl
      go false e = keeps-mask (shape_of (layout_of x v i).values.kind) (v.slots object i bit_mask) (k (eqb-false (v.slots object i bit_mask_seen) 0 e))

-- ---- bytes
module _ (image : List ℕ) (base : ℕ) (n : Need) (l : Layout) (at : Places) where
  abbrev Bytes : Type 0
  Bytes = (p : Part) → needed n p ≡ true
      → (base ≤ address_of at p) × (address_of at p + (shape_of (type_of l p)).bytes * (across_of at p * down_of at p) ≤ base + length image)

  one : (c : ℕ) → c * 1 ≡ c
  one c = omega arith

  inside-bytes : all_inside image base n l at ≡ true → Bytes
  inside-bytes h points_x e = let b = (inside-all image base n l at h).x e in rw (one at.cx) (b.0, omega (arith, b.0, b.1))
  inside-bytes h points_y e = let b = (inside-all image base n l at h).y e in rw (one at.cy) (b.0, omega (arith, b.0, b.1))
  inside-bytes h values e = let b = (inside-all image base n l at h).values e in (b.0, omega (arith, b.0, b.1))

  or-not : (b c : Bool) → (b ≡ true → c ≡ true) → (not b || c) ≡ true
  or-not true c h = h refl
  or-not false c h = refl

  in_image : (a w : ℕ) → (base ≤ a) × (a + w ≤ base + length image) → inside image base a w ≡ true
  unfolding inside
  in_image a w h = and (le-leb base a h.0) (le-leb (a + w) (base + length image) h.1)

  bytes_inside : Bytes → all_inside image base n l at ≡ true
  unfolding all_inside bytes_of
  bytes_inside h =
      and (and (or-not n.x.stored _ (λ e. in_image at.x ((shape_of l.x.kind).bytes * at.cx) (rw (one at.cx) at (h points_x e))))
      (or-not n.y.stored _ (λ e. in_image at.y ((shape_of l.y.kind).bytes * at.cy) (rw (one at.cy) at (h points_y e)))))
      (or-not n.values _ (λ e. in_image at.values ((shape_of l.values.kind).bytes * (at.cx * at.cy)) (h values e)))

-- ---- an object
-- what is given
pub given-of : {A : Type 0} (a : Answer A) → is_given a ≡ true → (t : A) × (a ≡ given t)
given-of (given t) h = (t, refl)
given-of (refused k) h = absurd (false≢true h)

module _ (image : List ℕ) (base : ℕ) (x : List ℕ) (d : Records) where
  pub accepted-objects : Accepted image base x d → (i : ℕ) → i < count d object → ObjectKeeps image base x (view d) i
  unfolding places_of
  accepted-objects a i l =
      let r = given-of (placement (ground_of x (view d) base i) (need_of image base x (view d) i) image (layout_of x (view d) i)) (a.places i l) in
      record {
        mask = fits-masked x (view d) i (a.masks i l);
        places = r.0.places;
        placed = (placed-exactly (ground_of x (view d) base i) (need_of image base x (view d) i) image (layout_of x (view d) i) r.0.places).0 (r.0, r.1, refl);
        bytes = inside-bytes image base (need_of image base x (view d) i) (layout_of x (view d) i) r.0.places
            (subst (λ (q : Answer Reached). all_inside image base (need_of image base x (view d) i) (layout_of x (view d) i) (places_in q) ≡ true) r.1 (a.bytes i l));
      }

  module _ (i : ℕ) (k : ObjectKeeps image base x (view d) i) where
    abbrev answer : Answer Reached
    answer = placement (ground_of x (view d) base i) (need_of image base x (view d) i) image (layout_of x (view d) i)

    reaches : (t : Reached) × (answer ≡ given t) × (t.places ≡ k.places)
    reaches = (placed-exactly (ground_of x (view d) base i) (need_of image base x (view d) i) image (layout_of x (view d) i) k.places).1 k.placed

    object-placed : is_given answer ≡ true
    object-placed = rw reaches.1

    -- where object i's parts stand: the rules leave no other places
    pub places-are : places_of image base x (view d) i ≡ k.places
    unfolding places_of
    places-are = rw reaches.1 reaches.2

    object-bytes : all_inside image base (need_of image base x (view d) i) (layout_of x (view d) i) (places_of image base x (view d) i) ≡ true
    object-bytes = rw places-are (bytes_inside image base (need_of image base x (view d) i) (layout_of x (view d) i) k.places k.bytes)

-- as the stages judge
pub keeps-accepted : (x image : List ℕ) (base : ℕ) (k : Keeps x image base) → Accepted image base x k.records
keeps-accepted x image base k =
    record {
      references = λ r m i l z. (leads-exactly x (view k.records) r (slot k.records r.sec i r.slot) (slot k.records r.sec i (r.slot + 1))).1 (k.references r m i l z);
      conversions = λ i l. (method-keeps (view k.records) i).1 (k.conversions i l);
      masks = λ i l. masked-fits x (view k.records) i (k.objects i l).mask;
      places = λ i l. object-placed image base x k.records i (k.objects i l);
      bytes = λ i l. object-bytes image base x k.records i (k.objects i l);
      elements = k.elements;
    }

pub accepted-keeps : (x image : List ℕ) (base : ℕ) (d : Records) → Description x d → Accepted image base x d → Keeps x image base
accepted-keeps x image base d t a =
    record { records = d; tree = t; references = λ r m i l z. (leads-exactly x (view d) r (slot d r.sec i r.slot) (slot d r.sec i (r.slot + 1))).0 (a.references r m i l z); conversions = λ i l. (method-keeps (view d) i).0 (a.conversions i l); objects = accepted-objects image base x d a; elements = a.elements }
