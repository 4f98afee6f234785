-- The three groups of each object of the tables that are built keep the table rule, and have as many elements as the object.
use Prim.Native.Nat.{ℕ, ◌+◌, ◌-◌, ◌*◌, ◌%◌, ◌≤◌, ◌<◌}
use mathlib.Core.Path.{◌≡◌, refl, sym, ◌∙◌, ap}
use mathlib.Core.List.{List}
use mathlib.Core.Bool.{Bool, true, false, cond, not, ◌&&◌, ◌||◌, false≢true}
use mathlib.Core.Logic.{◌⊎◌, inl, inr}
use native.Mathlib.Omega.{arith}
use native.Mathlib.Nat.{mul-le-mul_left, mul-add-mod_self_right}
use borrow.Author.Tests.{leb-true}
use lib.Dec.{eqb, leb}
use lib.ListN.{length, get_or}
use Rattle.number.specs.Decimal.{Scaled}
use Rattle.text.specs.Bytes.{spells}
use Rattle.text.proofs.Within.{and_left, and_right, by-test}
use Rattle.number.specs.Most.{most_elements, most_points}
use Rattle.cell.specs.Kind.{shape_of, is_type}
use Rattle.cell.specs.Mask.{mask_rule}
use Rattle.convert.specs.Limit.{at_most}
use Rattle.records.specs.Records.{count, slot}
use Rattle.rows.specs.Codes.{AXIS-PTS, MEASUREMENT, MAP, COLUMN-DIR, INDEX-DECR}
use Rattle.rows.specs.Sections as records
use Rattle.rows.specs.Slots.{block_code, fnc_values_mode, axis_pts_x_order, axis_pts_y_order, object_type, bit_mask_seen, bit_mask}
use Rattle.grammar.specs.Move.{View, view, decimal_slots}
use Rattle.facts.specs.Facts.{Kept}
use Rattle.place.specs.Inside.{inside}
use Rattle.place.specs.Judge.{bytes_of, elements_stored, all_inside}
use Rattle.place.specs.Rules.{same, matching}
use Rattle.place.specs.declared.order.Entry.{Entry}
use Rattle.place.specs.declared.order.Layout.{Layout}
use Rattle.place.specs.declared.rules.Axis.{Axis}
use Rattle.place.specs.declared.rules.Need.{Need}
use Rattle.place.specs.declared.walk.Places.{Places}
use Rattle.objects.specs.Object.{part, layout_at, measured, no_entry, layout_of, layout_number, first_of, ground_of, no_axis, axis_at, need_of, mask_fits, places_of, elements_of}
use Rattle.objects.proofs.Each.{find-below}
use Rattle.tables.specs.declared.setting.Setting.{Setting}
use Rattle.tables.specs.Form.{group_section, method_section, Tables, tables_of, kind}
use Rattle.tables.specs.Group as groups
use Rattle.tables.specs.Rule.{group_rule}
use Rattle.build.specs.Build.{method_number, method_in, forbids, limit_cells, meaning, values_walk, mask_of, what_of, of_object, of_axis, x_source, x_part, y_part, values_part, x_row, y_row, values_row, known_of, built}
use Rattle.build.specs.declared.part.Source.{Source}
use Rattle.build.proofs.BuiltLaws.{Within, within_of, count-methods, slot-x, slot-y, slot-values}
use Rattle.keeps.proofs.Bits.{or_right, wanted, flag-least}
use Rattle.keeps.proofs.Parts.{none-keeps, none-stored, none-elements, part-stored, part-elements, part-keeps, limits-keep, axis-keeps, values-keep}
use Rattle.keeps.proofs.Stood.{need-modest, one-point, Stood}

-- ---- data types

-- a layout has a part where there is a data type
abbrev Typed : Entry → Type 0
Typed e = e.present ≡ is_type e.kind

pub record TypedAll (l : Layout) : Type 0 where
  pub values : Typed l.values
  pub x : Typed l.x
  pub y : Typed l.y
  pub nx : Typed l.nx
  pub ny : Typed l.ny

part-typed : (v : View) (l p k : ℕ) → Typed (part v l p k)
unfolding part
part-typed v l p k = refl

none-typed : Typed no_entry
unfolding is_type
none-typed = refl

at_typed : (v : View) (l : ℕ) → TypedAll (layout_at v l)
unfolding layout_at
at_typed v l = record { values = part-typed v l 11 12; x = part-typed v l 16 17; y = part-typed v l 21 22; nx = part-typed v l 26 27; ny = part-typed v l 29 30 }

measured-typed : (k : ℕ) → TypedAll (measured k)
unfolding measured
measured-typed k = record { values = refl; x = none-typed; y = none-typed; nx = none-typed; ny = none-typed }

pub layout-typed : (x : List ℕ) (v : View) (i : ℕ) → TypedAll (layout_of x v i)
unfolding layout_of
layout-typed x v i = by-test TypedAll (eqb (v.slots records.object i block_code) MEASUREMENT) (λ t. measured-typed (v.slots records.object i object_type)) (λ t. at_typed v (layout_number x v i))

pub present-type : (e : Entry) → Typed e → e.present ≡ true → is_type e.kind ≡ true
present-type e t h = sym t ∙ h

-- a part that is needed is there
same_true : (a b : Bool) → same a b ≡ true → a ≡ true → b ≡ true
same_true true b h e = h
same_true false b h e = absurd (false≢true e)

pub record Matched (n : Need) (l : Layout) : Type 0 where
  pub values : n.values ≡ true → l.values.present ≡ true
  pub x : n.x.stored ≡ true → l.x.present ≡ true
  pub y : n.y.stored ≡ true → l.y.present ≡ true

pub matched : (n : Need) (l : Layout) → matching n l ≡ true → Matched n l
unfolding matching
matched n l h =
    let a : Bool = same n.values l.values.present in
    let b : Bool = same n.x.stored l.x.present in
    let c : Bool = same n.y.stored l.y.present in
    let d : Bool = n.x.stored || not l.nx.present in
    let e : Bool = n.y.stored || not l.ny.present in
    let p : (a && b && c && d) ≡ true = and_left (a && b && c && d) e h in
    let q : (a && b && c) ≡ true = and_left (a && b && c) d p in
    let r : (a && b) ≡ true = and_left (a && b) c q in
    record {
      values = same_true n.values l.values.present (and_left a b r);
      x = same_true n.x.stored l.x.present (and_right a b r);
      y = same_true n.y.stored l.y.present (and_right (a && b) c q);
    }

-- ---- bytes

pub in_image : (image : List ℕ) (base at w : ℕ) → inside image base at w ≡ true → (base ≤ at) × (at - base + w ≤ length image)
unfolding inside
in_image image base at w h =
    let p : base ≤ at = leb-true base at (and_left (leb base at) (leb (at + w) (base + length image)) h) in
    let q : at + w ≤ base + length image = leb-true (at + w) (base + length image) (and_right (leb base at) (leb (at + w) (base + length image)) h) in
    (p, omega arith)

pub bytes_in : (image : List ℕ) (base at : ℕ) (e : Entry) (c : ℕ) → inside image base at (bytes_of e c) ≡ true → (base ≤ at) × (at - base + (shape_of e.kind).bytes * c ≤ length image)
unfolding bytes_of
bytes_in image base at e c h = in_image image base at ((shape_of e.kind).bytes * c) h

pub record InsideAll (image : List ℕ) (base : ℕ) (n : Need) (l : Layout) (p : Places) : Type 0 where
  pub x : n.x.stored ≡ true → (base ≤ p.x) × (p.x - base + (shape_of l.x.kind).bytes * p.cx ≤ length image)
  pub y : n.y.stored ≡ true → (base ≤ p.y) × (p.y - base + (shape_of l.y.kind).bytes * p.cy ≤ length image)
  pub values : n.values ≡ true → (base ≤ p.values) × (p.values - base + (shape_of l.values.kind).bytes * (p.cx * p.cy) ≤ length image)

pub inside-all : (image : List ℕ) (base : ℕ) (n : Need) (l : Layout) (p : Places) → all_inside image base n l p ≡ true → InsideAll image base n l p
unfolding all_inside
inside-all image base n l p h =
    let a : Bool = not n.x.stored || inside image base p.x (bytes_of l.x p.cx) in
    let b : Bool = not n.y.stored || inside image base p.y (bytes_of l.y p.cy) in
    let c : Bool = not n.values || inside image base p.values (bytes_of l.values (p.cx * p.cy)) in
    let r : (a && b) ≡ true = and_left (a && b) c h in
    record {
      x = λ e. bytes_in image base p.x l.x p.cx (wanted n.x.stored (inside image base p.x (bytes_of l.x p.cx)) (and_left a b r) e);
      y = λ e. bytes_in image base p.y l.y p.cy (wanted n.y.stored (inside image base p.y (bytes_of l.y p.cy)) (and_right a b r) e);
      values = λ e. bytes_in image base p.values l.values (p.cx * p.cy) (wanted n.values (inside image base p.values (bytes_of l.values (p.cx * p.cy))) (and_right (a && b) c h) e);
    }

-- a stored count
counter-fine : (image : List ℕ) (base at : ℕ) (e : Entry) → Typed e → (e.present ≡ true → inside image base at (shape_of e.kind).bytes ≡ true) → (b : Bool) → e.present ≡ b
    → ((cond b e.kind 0 ≡ 0) × (cond b (at - base) 0 ≡ 0)) ⊎ ((is_type (cond b e.kind 0) ≡ true) × (cond b (at - base) 0 + (shape_of (cond b e.kind 0)).bytes ≤ length image))
counter-fine image base at e t h true q = inr (present-type e t q, (in_image image base at (shape_of e.kind).bytes (h q)).1)
counter-fine image base at e t h false q = inl (refl, refl)

-- ---- the three remainders

rest_0 : (i : ℕ) → i * 3 % 3 ≡ 0
rest_0 i = let z : i * 3 ≡ i * 3 + 0 = omega arith in rw z (mul-add-mod_self_right i 3 0)

rest-1 : (i : ℕ) → (i * 3 + 1) % 3 ≡ 1
rest-1 i = mul-add-mod_self_right i 3 1

rest-2 : (i : ℕ) → (i * 3 + 2) % 3 ≡ 2
rest-2 i = mul-add-mod_self_right i 3 2

-- ---- numbers of the rows

-- a method's number is at most how many there are
method-few : (x : List ℕ) (v : View) (s : Source) → method_in x v s ≤ v.counts records.method
unfolding method_in method_number
method-few x v s =
    by-test (λ (n : ℕ). n ≤ v.counts records.method) (spells x (v.slots s.sec s.number s.conversion) (v.slots s.sec s.number (s.conversion + 1)) "NO_COMPU_METHOD") (λ t. omega arith)
    (λ t. find-below x v records.method (v.slots s.sec s.number s.conversion) (v.slots s.sec s.number (s.conversion + 1)))

forbids-least : (v : View) (s : Source) (f : Bool) → forbids v s f ≤ 1
unfolding forbids
forbids-least v s f = flag-least (f || not (eqb (v.slots s.sec s.number s.only) 0))

-- the limits of a source
abbrev lower : View → Source → Scaled
lower v s = decimal_slots v s.sec s.number s.lower

abbrev upper : View → Source → Scaled
upper v s = decimal_slots v s.sec s.number s.upper

x-limits : (x : List ℕ) (d : List (List (List ℕ))) → Kept x d → (i : ℕ) → at_most (lower (view d) (x_source (view d) i)) (upper (view d) (x_source (view d) i)) ≡ true
x-limits x d k i = by-test (λ (s : Source). at_most (lower (view d) s) (upper (view d) s) ≡ true) (eqb (slot d records.object i block_code) AXIS-PTS) (λ t. k.limits i) (λ t. k.axis_limits (axis_at (view d) i 0))

walk-values : (v : View) (i l : ℕ) → (values_walk v i l ≡ 0) ⊎ (values_walk v i l ≡ 2)
unfolding values_walk
walk-values v i l = by-test (λ (n : ℕ). (n ≡ 0) ⊎ (n ≡ 2)) (eqb (what_of v i) MAP && eqb (v.slots records.layout l fnc_values_mode) COLUMN-DIR) (λ t. inr refl) (λ t. inl refl)

mask-turn : (b : Bool) (r : Bool) (k m : ℕ) → r ≡ mask_rule (shape_of k) m → (b || r) ≡ true → (eqb (cond b 0 m) 0 || mask_rule (shape_of k) (cond b 0 m)) ≡ true
mask-turn true r k m e h = refl
mask-turn false r k m e h = or_right (eqb m 0) (sym e ∙ h)

mask-fine : (x : List ℕ) (v : View) (i : ℕ) → mask_fits x v i ≡ true → (eqb (mask_of v i) 0 || mask_rule (shape_of (layout_of x v i).values.kind) (mask_of v i)) ≡ true
unfolding mask_fits mask_of
mask-fine x v i h = mask-turn (eqb (v.slots records.object i bit_mask_seen) 0) (mask_rule (shape_of (layout_of x v i).values.kind) (v.slots records.object i bit_mask)) (layout_of x v i).values.kind (v.slots records.object i bit_mask) refl h

-- the values are a share of the elements
share-few : (a b : ℕ) (t : Bool) (c : ℕ) → t ≡ true → a + b + cond t c 0 ≤ most_elements → c ≤ most_elements
share-few a b true c e h = omega arith
share-few a b false c e h = absurd (false≢true e)

-- ---- the groups

module _ (image : List ℕ) (setting : Setting) (x : List ℕ) (d : List (List (List ℕ))) (n : ℕ) (k : Kept x d) where
  abbrev T : Tables
  T = tables_of (built image setting x (view d) n)

  -- group g keeps the rule, is stored or not, and has so many elements
  pub record Ruling (g : ℕ) (stored : Bool) (many : ℕ) : Type 0 where
    pub keeps : group_rule T g (length image) ≡ true
    pub stored_is : not (eqb (kind T g) 0) ≡ stored
    pub many_is : groups.elements T g ≡ many

  w : Within (view d)
  w = within_of d k.good

  module _ (i : ℕ) (l : i < count d records.object) (s : Stood image setting.base x (view d) i) where
    -- a point in x and in y
    abbrev pub Pointing : Type 0
    Pointing = (1 ≤ (places_of image setting.base x (view d) i).cx) × (1 ≤ (places_of image setting.base x (view d) i).cy)

    methods-few : (q : Source) → method_in x (view d) q ≤ T.counts method_section
    methods-few q = rw (count-methods image setting x (view d) n w) (method-few x (view d) q)

    pub x-ruling : Pointing → Ruling (i * 3) (need_of image setting.base x (view d) i).x.stored (cond (need_of image setting.base x (view d) i).x.stored (places_of image setting.base x (view d) i).cx 0)
    unfolding x_part known_of meaning limit_cells ground_of
    x-ruling o = turn (need_of image setting.base x (view d) i).x.stored refl (λ j. slot-x image setting x (view d) n w i j l) where
      turn : (b : Bool) → (need_of image setting.base x (view d) i).x.stored ≡ b → ((j : ℕ) → T.slots group_section (i * 3) j ≡ get_or (x_row image setting.base x (view d) i) j 0)
          → Ruling (i * 3) b (cond b (places_of image setting.base x (view d) i).cx 0)
      turn true e h₀ =
          let h = rw e at h₀ in
          let c : (places_of image setting.base x (view d) i).cx ≤ 256 = omega (arith, s.held.points_x, (need-modest image setting.base x (view d) i).few_x e) in
          let z : (places_of image setting.base x (view d) i).cx * 1 ≡ (places_of image setting.base x (view d) i).cx = omega arith in
          record {
            keeps = part-keeps T (i * 3) (length image) _ _ _ _ _ _ _ _ _ _ _ _ _ _ _ _ _ h (record {
              type = present-type (layout_of x (view d) i).x (layout-typed x (view d) i).x ((matched (need_of image setting.base x (view d) i) (layout_of x (view d) i) s.matched).x e);
              order = flag-least (first_of (view d) i);
              some_x = o.0;
              few_x = omega arith;
              some_y = omega arith;
              few_y = omega arith;
              bytes_in = rw z ((inside-all image setting.base (need_of image setting.base x (view d) i) (layout_of x (view d) i) (places_of image setting.base x (view d) i) s.bytes_in).x e).1;
              role = axis-keeps T (i * 3) (length image) _ _ _ _ _ _ _ _ _ _ _ _ _ _ _ _ _ h (omega (arith, rest_0 i)) c refl (flag-least (eqb (slot d records.layout (layout_number x (view d) i) axis_pts_x_order) INDEX-DECR)) refl
                  (counter-fine image setting.base (places_of image setting.base x (view d) i).nx (layout_of x (view d) i).nx (layout-typed x (view d) i).nx s.held.count_x (layout_of x (view d) i).nx.present refl);
              its_method = methods-few (x_source (view d) i);
              only = forbids-least (view d) (x_source (view d) i) false;
              limits = limits-keep T (i * 3) (length image) _ _ _ _ _ _ _ _ _ _ _ _ _ _ _ _ _ h (lower (view d) (x_source (view d) i)) (upper (view d) (x_source (view d) i)) refl refl refl refl refl refl (omega arith) (omega arith) (x-limits x d k i);
            });
            stored_is = part-stored T (i * 3) (length image) _ _ _ _ _ _ _ _ _ _ _ _ _ _ _ _ _ h (present-type (layout_of x (view d) i).x (layout-typed x (view d) i).x ((matched (need_of image setting.base x (view d) i) (layout_of x (view d) i) s.matched).x e));
            many_is = part-elements T (i * 3) (length image) _ _ _ _ _ _ _ _ _ _ _ _ _ _ _ _ _ h (omega arith) (omega arith) ∙ z;
          }
      turn false e h₀ = let h = rw e at h₀ in record { keeps = none-keeps T (i * 3) (length image) h; stored_is = none-stored T (i * 3) (length image) h; many_is = none-elements T (i * 3) (length image) h }

    pub y-ruling : Pointing → Ruling (i * 3 + 1) (need_of image setting.base x (view d) i).y.stored (cond (need_of image setting.base x (view d) i).y.stored (places_of image setting.base x (view d) i).cy 0)
    unfolding y_part known_of meaning limit_cells ground_of
    y-ruling o = turn (need_of image setting.base x (view d) i).y.stored refl (λ j. slot-y image setting x (view d) n w i j l) where
      turn : (b : Bool) → (need_of image setting.base x (view d) i).y.stored ≡ b → ((j : ℕ) → T.slots group_section (i * 3 + 1) j ≡ get_or (y_row image setting.base x (view d) i) j 0)
          → Ruling (i * 3 + 1) b (cond b (places_of image setting.base x (view d) i).cy 0)
      turn true e h₀ =
          let h = rw e at h₀ in
          let c : (places_of image setting.base x (view d) i).cy ≤ 256 = omega (arith, s.held.points_y, (need-modest image setting.base x (view d) i).few_y e) in
          let z : (places_of image setting.base x (view d) i).cy * 1 ≡ (places_of image setting.base x (view d) i).cy = omega arith in
          record {
            keeps = part-keeps T (i * 3 + 1) (length image) _ _ _ _ _ _ _ _ _ _ _ _ _ _ _ _ _ h (record {
              type = present-type (layout_of x (view d) i).y (layout-typed x (view d) i).y ((matched (need_of image setting.base x (view d) i) (layout_of x (view d) i) s.matched).y e);
              order = flag-least (first_of (view d) i);
              some_x = o.1;
              few_x = omega arith;
              some_y = omega arith;
              few_y = omega arith;
              bytes_in = rw z ((inside-all image setting.base (need_of image setting.base x (view d) i) (layout_of x (view d) i) (places_of image setting.base x (view d) i) s.bytes_in).y e).1;
              role = axis-keeps T (i * 3 + 1) (length image) _ _ _ _ _ _ _ _ _ _ _ _ _ _ _ _ _ h (omega (arith, rest-1 i)) c refl (flag-least (eqb (slot d records.layout (layout_number x (view d) i) axis_pts_y_order) INDEX-DECR)) refl
                  (counter-fine image setting.base (places_of image setting.base x (view d) i).ny (layout_of x (view d) i).ny (layout-typed x (view d) i).ny s.held.count_y (layout_of x (view d) i).ny.present refl);
              its_method = methods-few (of_axis (axis_at (view d) i 1));
              only = forbids-least (view d) (of_axis (axis_at (view d) i 1)) false;
              limits = limits-keep T (i * 3 + 1) (length image) _ _ _ _ _ _ _ _ _ _ _ _ _ _ _ _ _ h (lower (view d) (of_axis (axis_at (view d) i 1))) (upper (view d) (of_axis (axis_at (view d) i 1))) refl refl refl refl refl refl (omega arith) (omega arith) (k.axis_limits (axis_at (view d) i 1));
            });
            stored_is = part-stored T (i * 3 + 1) (length image) _ _ _ _ _ _ _ _ _ _ _ _ _ _ _ _ _ h (present-type (layout_of x (view d) i).y (layout-typed x (view d) i).y ((matched (need_of image setting.base x (view d) i) (layout_of x (view d) i) s.matched).y e));
            many_is = part-elements T (i * 3 + 1) (length image) _ _ _ _ _ _ _ _ _ _ _ _ _ _ _ _ _ h (omega arith) (omega arith) ∙ z;
          }
      turn false e h₀ = let h = rw e at h₀ in record { keeps = none-keeps T (i * 3 + 1) (length image) h; stored_is = none-stored T (i * 3 + 1) (length image) h; many_is = none-elements T (i * 3 + 1) (length image) h }

    -- values have at most 4,096 points in x and in y
    pub few-points : (need_of image setting.base x (view d) i).values ≡ true → ((places_of image setting.base x (view d) i).cx ≤ most_points) × ((places_of image setting.base x (view d) i).cy ≤ most_points)
    unfolding elements_of elements_stored
    few-points e = by_row (need-modest image setting.base x (view d) i).row where
      elements-few : cond (need_of image setting.base x (view d) i).x.stored (places_of image setting.base x (view d) i).cx 0 + cond (need_of image setting.base x (view d) i).y.stored (places_of image setting.base x (view d) i).cy 0
          + cond (need_of image setting.base x (view d) i).values ((places_of image setting.base x (view d) i).cx * (places_of image setting.base x (view d) i).cy) 0 ≤ most_elements
      elements-few = s.few

      all-few : (places_of image setting.base x (view d) i).cx * (places_of image setting.base x (view d) i).cy ≤ most_elements
      all-few = share-few (cond (need_of image setting.base x (view d) i).x.stored (places_of image setting.base x (view d) i).cx 0) (cond (need_of image setting.base x (view d) i).y.stored (places_of image setting.base x (view d) i).cy 0) (need_of image setting.base x (view d) i).values
          ((places_of image setting.base x (view d) i).cx * (places_of image setting.base x (view d) i).cy) e elements-few

      by_row : ((need_of image setting.base x (view d) i).y ≡ no_axis) ⊎ (((need_of image setting.base x (view d) i).x.most ≤ 256) × ((need_of image setting.base x (view d) i).y.most ≤ 256))
          → ((places_of image setting.base x (view d) i).cx ≤ most_points) × ((places_of image setting.base x (view d) i).cy ≤ most_points)
      by_row (inl q) =
          let o : 1 ≤ (places_of image setting.base x (view d) i).cy = s.some_y (one-point (need_of image setting.base x (view d) i).y q) in
          let p : (places_of image setting.base x (view d) i).cx * 1 ≤ (places_of image setting.base x (view d) i).cx * (places_of image setting.base x (view d) i).cy = mul-le-mul_left (places_of image setting.base x (view d) i).cx o in
          let r : (need_of image setting.base x (view d) i).y.most ≡ 1 = ap (λ (a : Axis). a.most) q in
          (omega (arith, all-few), omega (arith, s.held.points_y))
      by_row (inr q) = (omega (arith, s.held.points_x), omega (arith, s.held.points_y))

    pub values-ruling : Pointing → Ruling (i * 3 + 2) (need_of image setting.base x (view d) i).values (cond (need_of image setting.base x (view d) i).values ((places_of image setting.base x (view d) i).cx * (places_of image setting.base x (view d) i).cy) 0)
    unfolding values_part known_of meaning limit_cells
    values-ruling o = turn (need_of image setting.base x (view d) i).values refl (λ j. slot-values image setting x (view d) n w i j l) where
      turn : (b : Bool) → (need_of image setting.base x (view d) i).values ≡ b → ((j : ℕ) → T.slots group_section (i * 3 + 2) j ≡ get_or (values_row image setting.base x (view d) i) j 0)
          → Ruling (i * 3 + 2) b (cond b ((places_of image setting.base x (view d) i).cx * (places_of image setting.base x (view d) i).cy) 0)
      turn true e h₀ =
          let h = rw e at h₀ in
          let c = few-points e in
          record {
            keeps = part-keeps T (i * 3 + 2) (length image) _ _ _ _ _ _ _ _ _ _ _ _ _ _ _ _ _ h (record {
              type = present-type (layout_of x (view d) i).values (layout-typed x (view d) i).values ((matched (need_of image setting.base x (view d) i) (layout_of x (view d) i) s.matched).values e);
              order = flag-least (first_of (view d) i);
              some_x = o.0;
              few_x = c.0;
              some_y = o.1;
              few_y = c.1;
              bytes_in = ((inside-all image setting.base (need_of image setting.base x (view d) i) (layout_of x (view d) i) (places_of image setting.base x (view d) i) s.bytes_in).values e).1;
              role = values-keep T (i * 3 + 2) (length image) _ _ _ _ _ _ _ _ _ _ _ _ _ _ _ _ _ h (omega (arith, rest-2 i)) (walk-values (view d) i (layout_number x (view d) i)) (mask-fine x (view d) i s.masked) refl refl;
              its_method = methods-few (of_object i);
              only = forbids-least (view d) (of_object i) (eqb (what_of (view d) i) MEASUREMENT);
              limits = limits-keep T (i * 3 + 2) (length image) _ _ _ _ _ _ _ _ _ _ _ _ _ _ _ _ _ h (lower (view d) (of_object i)) (upper (view d) (of_object i)) refl refl refl refl refl refl (omega arith) (omega arith) (k.limits i);
            });
            stored_is = part-stored T (i * 3 + 2) (length image) _ _ _ _ _ _ _ _ _ _ _ _ _ _ _ _ _ h (present-type (layout_of x (view d) i).values (layout-typed x (view d) i).values ((matched (need_of image setting.base x (view d) i) (layout_of x (view d) i) s.matched).values e));
            many_is = part-elements T (i * 3 + 2) (length image) _ _ _ _ _ _ _ _ _ _ _ _ _ _ _ _ _ h c.0 c.1;
          }
      turn false e h₀ = let h = rw e at h₀ in record { keeps = none-keeps T (i * 3 + 2) (length image) h; stored_is = none-stored T (i * 3 + 2) (length image) h; many_is = none-elements T (i * 3 + 2) (length image) h }
