-- THE SECOND DEMAND: "every element then stands at the address and width its layout gives, inside the image".
--     part_held     each part of each object of an accepted load, on the lent cells
use Prim.Native.Nat.{ℕ, ◌+◌, ◌-◌, ◌*◌, ◌≤◌, ◌<◌, min}
use mathlib.Core.Path.{◌≡◌, refl, sym, subst}
use mathlib.Core.List.{List, [], ◌∷◌, ◌++◌}
use mathlib.Core.Bool.{Bool, true, false, not}
use native.Mathlib.Omega.{arith}
use lib.Dec.{eqb}
use lib.ListN.{length, get_or}
use Rattle.number.specs.Decimal.{Scaled}
use Rattle.records.specs.Records.{count}
use Rattle.rows.specs.Sections as records
use Rattle.grammar.specs.Move.{View, view}
use Rattle.cell.specs.Kind.{shape_of}
use Rattle.place.specs.declared.walk.Places.{Places}
use Rattle.objects.specs.Object.{layout_of, first_of, need_of, places_of}
use Rattle.tables.specs.declared.setting.Setting.{Setting}
use Rattle.build.specs.Build.{flag, method_in, forbids, limit_cells, meaning, standing_cells, counter_cells, x_part, y_part, values_part, known_of, built}
use Rattle.build.proofs.BuiltLaws.{Within, slot-x, slot-y, slot-values}
use Rattle.tables.specs.Form.{group_section, lower_cell, upper_cell, Tables, tables_of, tables_in, first, walk, method_of, mask, forbidden, limit, x as across_in, wide, high, kind}
use Rattle.tables.specs.Group.{group_of, position, place_of}
use Rattle.load.specs.Load.{loaded}
use Rattle.keeps.specs.Accepted.{Taken}
use Rattle.keeps.specs.Stands.{Part, points_x, points_y, values, number_of, needed, address_of, type_of, across_of, down_of, StandsAt}
use Rattle.keeps.proofs.Bits.{flag-back}
use Rattle.keeps.proofs.Elements.{element-stands}
use Rattle.demands.specs.Rules.{Fits, Keeps}
use Rattle.demands.specs.Standing.{walk_of, part_mask, source_of, measures, read_only, part_lower, part_upper, PartHolds}
use Rattle.demands.proofs.Ruling.{places-are, keeps-accepted}
use Rattle.demands.proofs.Accepting.{fits-edition}
use Rattle.demands.proofs.Loaded.{elements, made, is_read, within, same}

flag-not : (b : Bool) → not (eqb (flag b) 0) ≡ b
flag-not true = refl
flag-not false = refl

-- a decimal comes back from its three cells
back : (a b c : ℕ) (d : Scaled) → a ≡ flag d.negative → b ≡ d.whole → c ≡ d.tens → d.tens ≤ 7 → ◌≡◌ {A = Scaled} (record { negative = eqb a 1; whole = b; tens = min c 7 }) d
back a b c d p q r l =
    let n : eqb a 1 ≡ d.negative = rw p (flag-back d.negative) in
    let t : min c 7 ≡ d.tens = omega arith in
    λ i. record { negative = n i; whole = q i; tens = t i }

module _ (image : List ℕ) (setting : Setting) (x : List ℕ) (d : List (List (List ℕ))) (n : ℕ) (w : Within (view d)) (i : ℕ) (below : i < count d records.object) where
  abbrev v : View
  v = view d

  abbrev T : Tables
  T = tables_of (built image setting x (view d) n)

  -- a stored count's cells; values have none
  abbrev count_of : Part → List ℕ
  count_of points_x = counter_cells (layout_of x v i).nx ((places_of image setting.base x v i).nx - setting.base)
  count_of points_y = counter_cells (layout_of x v i).ny ((places_of image setting.base x v i).ny - setting.base)
  count_of values = 0 ∷ 0 ∷ []

  -- the cells of a part
  abbrev row_of : Part → List ℕ
  row_of p =
      standing_cells (type_of (layout_of x v i) p) (first_of v i) (address_of (places_of image setting.base x v i) p - setting.base) (across_of (places_of image setting.base x v i) p) (down_of (places_of image setting.base x v i) p) (walk_of x v i p)
      ++ (meaning x v (source_of x v i p) (part_mask x v i p) (measures x v i p) ++ count_of p)

  part-row : (p : Part) → needed (need_of image setting.base x v i) p ≡ true → (k : ℕ) → T.slots group_section (group_of i (number_of p)) k ≡ get_or (row_of p) k 0
  unfolding x_part y_part values_part known_of
  part-row points_x e k = let z : i * 3 + 0 ≡ i * 3 = omega arith in rw z (rw e at (slot-x image setting x v n w i k below))
  part-row points_y e k = rw e at (slot-y image setting x v n w i k below)
  part-row values e k = rw e at (slot-values image setting x v n w i k below)

  module _ (p : Part) (e : needed (need_of image setting.base x v i) p ≡ true) where
    abbrev g : ℕ
    g = group_of i (number_of p)

    order_is : first T g ≡ first_of v i
    order_is = rw (part-row p e 1) (flag-back (first_of v i))

    walk_is : walk T g ≡ walk_of x v i p
    walk_is = part-row p e 7

    method-is : method_of T g ≡ method_in x v (source_of x v i p)
    unfolding meaning
    method-is = part-row p e 8

    mask_is : mask T g ≡ part_mask x v i p
    unfolding meaning
    mask_is = part-row p e 9

    locked-is : forbidden T g ≡ read_only x v i p
    unfolding meaning forbids
    locked-is = rw (part-row p e 10) (flag-not (read_only x v i p))

    lower-is : limit T g lower_cell ≡ part_lower x v i p
    unfolding meaning limit_cells
    lower-is = back (T.slots group_section g 11) (T.slots group_section g 12) (T.slots group_section g 13) (part_lower x v i p) (part-row p e 11) (part-row p e 12) (part-row p e 13) (omega arith)

    upper_is : limit T g upper_cell ≡ part_upper x v i p
    unfolding meaning limit_cells
    upper_is = back (T.slots group_section g 14) (T.slots group_section g 15) (T.slots group_section g 16) (part_upper x v i p) (part-row p e 14) (part-row p e 15) (part-row p e 16) (omega arith)

    element-is : (m : ℕ) (s : StandsAt T g setting.base m (layout_of x v i) (places_of image setting.base x v i) p) (j : ℕ)
        → setting.base + place_of T g j
        ≡ address_of (places_of image setting.base x v i) p + (shape_of (type_of (layout_of x v i) p)).bytes * position (walk_of x v i p) (across_of (places_of image setting.base x v i) p) (across_of (places_of image setting.base x v i) p) (down_of (places_of image setting.base x v i) p) j
    unfolding place_of
    element-is m s j =
        let a : wide T g ≡ across_of (places_of image setting.base x v i) p = omega (arith, s.across, part-row p e 3, part-row p e 5) in
        let b : high T g ≡ down_of (places_of image setting.base x v i) p = omega (arith, s.down, part-row p e 4, part-row p e 6) in
        let c : (shape_of (kind T g)).bytes * position (walk T g) (across_in T g) (wide T g) (high T g) j
        ≡ (shape_of (type_of (layout_of x v i) p)).bytes * position (walk_of x v i p) (across_of (places_of image setting.base x v i) p) (across_of (places_of image setting.base x v i) p) (down_of (places_of image setting.base x v i) p) j =
        rw (s.type, walk_is, s.across, a, b) in
        omega (arith, s.address, c)

    holds : (m : ℕ) → StandsAt T g setting.base m (layout_of x v i) (places_of image setting.base x v i) p → PartHolds x v i T g setting.base m (layout_of x v i) (places_of image setting.base x v i) p
    holds m s = record {
      stands = s;
      element = element-is m s;
      order = order_is;
      masked = mask_is;
      converted = method-is;
      locked = locked-is;
      lower = lower-is;
      upper = upper_is;
    }

-- in the tables that an accepted load leaves, part p of object i, where the object needs it
pub part_held : (x image : List ℕ) (setting : Setting) (lent work : List ℕ) → Fits x image setting lent work → (k : Keeps x image setting.base) (i : ℕ) (l : i < count k.records records.object) (p : Part)
    → needed (need_of image setting.base x (view k.records) i) p ≡ true
    → PartHolds x (view k.records) i (tables_in (loaded x image setting lent work).tables) (group_of i (number_of p)) setting.base (length image) (layout_of x (view k.records) i) (k.objects i l).places p
part_held x image setting lent work f k i l p e =
    let d = k.records in
    let w : Within (view d) = within x image setting lent work f k in
    let n : Taken image setting x (made x image setting lent work f k) = record { records = d; is_read = is_read x image setting lent work f k; accepted = keeps-accepted x image setting.base k; is_built = refl } in
    subst (λ (T : Tables). PartHolds x (view d) i T (group_of i (number_of p)) setting.base (length image) (layout_of x (view d) i) (k.objects i l).places p) (sym (same x image setting lent work f k))
    (subst (λ (at : Places). PartHolds x (view d) i (tables_of (made x image setting lent work f k)) (group_of i (number_of p)) setting.base (length image) (layout_of x (view d) i) at p) (places-are image setting.base x d i (k.objects i l))
    (holds image setting x d (elements x image setting lent work f k) w i l p e (length image) (element-stands image setting x (made x image setting lent work f k) n (fits-edition x image setting lent work f) f.image_fits i l p e)))
