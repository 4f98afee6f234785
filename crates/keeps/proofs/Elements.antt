-- An element of an accepted load stands where its layout puts it (specs/Stands.antt).
use Prim.Native.Nat.{ℕ, ◌+◌, ◌-◌, ◌*◌, ◌≤◌, ◌<◌}
use mathlib.Core.Path.{◌≡◌, subst}
use mathlib.Core.List.{List}
use mathlib.Core.Bool.{true}
use native.Mathlib.Omega.{arith}
use lib.ListN.{length, get_or}
use Rattle.number.specs.Most.{most_points}
use Rattle.records.specs.Records.{count}
use Rattle.records.specs.Cells.{room, encode}
use Rattle.rows.specs.Sections as records
use Rattle.grammar.specs.Move.{view}
use Rattle.facts.specs.Facts.{Kept}
use Rattle.facts.proofs.Keeps.{read_keeps}
use Rattle.objects.specs.Object.{layout_of, need_of, places_of}
use Rattle.convert.specs.Edition.{is_edition}
use Rattle.tables.specs.declared.setting.Setting.{Setting}
use Rattle.tables.specs.Form.{table_sections, group_section, Tables, tables_of, tables_in}
use Rattle.tables.specs.Group.{group_of, elements, bytes, place_of}
use Rattle.tables.proofs.Cells.{tables-encode}
use Rattle.tables.proofs.Reading.{element-inside}
use Rattle.build.specs.Build.{limit_cells, meaning, x_part, y_part, values_part, x_row, y_row, values_row, known_of, built}
use Rattle.build.proofs.BuiltLaws.{Within, within_of, built-good, count-groups, slot-x, slot-y, slot-values}
use Rattle.keeps.specs.Accepted.{all_elements, Taken}
use Rattle.keeps.specs.Stands.{Part, points_x, points_y, values, number_of, needed, address_of, type_of, across_of, down_of, StandsAt}
use Rattle.keeps.proofs.Stood.{need-modest, Stood}
use Rattle.keeps.proofs.Groups.{InsideAll, inside-all, few-points}
use Rattle.keeps.proofs.Exactly.{taken-judged, accepted-given}
use Rattle.keeps.proofs.Rule.{stood, load-keeps}

-- what the first numbers of a part's row are
record Placed (T : Tables) (g base m k at cx cy : ℕ) : Type 0 where
  kind_is : T.slots group_section g 0 ≡ k
  at_is : T.slots group_section g 2 ≡ at - base
  cx_is : T.slots group_section g 3 ≡ cx
  cy_is : T.slots group_section g 4 ≡ cy
  few_x : cx ≤ most_points
  few_y : cy ≤ most_points
  above : base ≤ at
  fits : at - base ≤ m

module _ (image : List ℕ) (setting : Setting) (x₀ : List ℕ) (d : List (List (List ℕ))) (n : ℕ) (k : Kept x₀ d) (i : ℕ) (l : i < count d records.object) (s : Stood image setting.base x₀ (view d) i) where
  abbrev T : Tables
  T = tables_of (built image setting x₀ (view d) n)

  w : Within (view d)
  w = within_of d k.good

  all_in : InsideAll image setting.base (need_of image setting.base x₀ (view d) i) (layout_of x₀ (view d) i) (places_of image setting.base x₀ (view d) i)
  all_in = inside-all image setting.base (need_of image setting.base x₀ (view d) i) (layout_of x₀ (view d) i) (places_of image setting.base x₀ (view d) i) s.bytes_in

  x-placed : (need_of image setting.base x₀ (view d) i).x.stored ≡ true → Placed T (i * 3) setting.base (length image) (layout_of x₀ (view d) i).x.kind (places_of image setting.base x₀ (view d) i).x (places_of image setting.base x₀ (view d) i).cx 1
  unfolding x_part known_of meaning limit_cells
  x-placed e =
      let h : (j : ℕ) → T.slots group_section (i * 3) j ≡ get_or (x_row image setting.base x₀ (view d) i) j 0 = λ j. slot-x image setting x₀ (view d) n w i j l in
      let b = all_in.x e in
      record {
        kind_is = rw e at (h 0);
        at_is = rw e at (h 2);
        cx_is = rw e at (h 3);
        cy_is = rw e at (h 4);
        few_x = omega (arith, s.held.points_x, (need-modest image setting.base x₀ (view d) i).few_x e);
        few_y = omega arith;
        above = b.0;
        fits = omega (arith, b.1);
      }

  y-placed : (need_of image setting.base x₀ (view d) i).y.stored ≡ true → Placed T (i * 3 + 1) setting.base (length image) (layout_of x₀ (view d) i).y.kind (places_of image setting.base x₀ (view d) i).y (places_of image setting.base x₀ (view d) i).cy 1
  unfolding y_part known_of meaning limit_cells
  y-placed e =
      let h : (j : ℕ) → T.slots group_section (i * 3 + 1) j ≡ get_or (y_row image setting.base x₀ (view d) i) j 0 = λ j. slot-y image setting x₀ (view d) n w i j l in
      let b = all_in.y e in
      record {
        kind_is = rw e at (h 0);
        at_is = rw e at (h 2);
        cx_is = rw e at (h 3);
        cy_is = rw e at (h 4);
        few_x = omega (arith, s.held.points_y, (need-modest image setting.base x₀ (view d) i).few_y e);
        few_y = omega arith;
        above = b.0;
        fits = omega (arith, b.1);
      }

  values-placed : (need_of image setting.base x₀ (view d) i).values ≡ true
      → Placed T (i * 3 + 2) setting.base (length image) (layout_of x₀ (view d) i).values.kind (places_of image setting.base x₀ (view d) i).values (places_of image setting.base x₀ (view d) i).cx (places_of image setting.base x₀ (view d) i).cy
  unfolding values_part known_of meaning limit_cells
  values-placed e =
      let h : (j : ℕ) → T.slots group_section (i * 3 + 2) j ≡ get_or (values_row image setting.base x₀ (view d) i) j 0 = λ j. slot-values image setting x₀ (view d) n w i j l in
      let b = all_in.values e in
      let c = few-points image setting x₀ d n k i l s e in
      record { kind_is = rw e at (h 0); at_is = rw e at (h 2); cx_is = rw e at (h 3); cy_is = rw e at (h 4); few_x = c.0; few_y = c.1; above = b.0; fits = omega (arith, b.1) }

  part_placed : (p : Part) → needed (need_of image setting.base x₀ (view d) i) p ≡ true
      → Placed T (group_of i (number_of p)) setting.base (length image) (type_of (layout_of x₀ (view d) i) p) (address_of (places_of image setting.base x₀ (view d) i) p) (across_of (places_of image setting.base x₀ (view d) i) p) (down_of (places_of image setting.base x₀ (view d) i) p)
  part_placed points_x e = let z : i * 3 + 0 ≡ i * 3 = omega arith in rw z (x-placed e)
  part_placed points_y e = y-placed e
  part_placed values e = values-placed e

part-few : (p : Part) → number_of p < 3
part-few points_x = omega arith
part-few points_y = omega arith
part-few values = omega arith

-- D are the tables of a description that is accepted, with an image of at most 1 MiB
module _ (image : List ℕ) (setting : Setting) (x₀ : List ℕ) (D : List (List (List ℕ))) (t : Taken image setting x₀ D) (v : is_edition setting.edition ≡ true) (m : length image ≤ 1048576) where
  kept : Kept x₀ t.records
  kept = read_keeps x₀ t.records t.is_read

  fits : Within (view t.records)
  fits = within_of t.records kept.good

  same : tables_in (encode table_sections (room table_sections) D) ≡ tables_of D
  same = tables-encode (room table_sections) D (rw t.is_built (built-good image setting x₀ (view t.records) (all_elements image setting.base x₀ t.records) fits))

  groups-are : count D group_section ≡ count t.records records.object * 3
  groups-are = rw t.is_built (count-groups image setting x₀ (view t.records) (all_elements image setting.base x₀ t.records) fits)

  inside-at : (g j : ℕ) → g < count D group_section → j < elements (tables_of D) g → place_of (tables_of D) g j + bytes (tables_of D) g ≤ length image
  inside-at =
      subst (λ (T : Tables). (g j : ℕ) → g < T.counts group_section → j < elements T g → place_of T g j + bytes T g ≤ length image) same
      (element-inside (length x₀) (length image) (encode table_sections (room table_sections) D) (load-keeps image setting x₀ D v (accepted-given image setting x₀ D t) (room table_sections) (omega arith)))

  -- object i's part p, where it needs it
  pub element-stands : (i : ℕ) → i < count t.records records.object → (p : Part) → needed (need_of image setting.base x₀ (view t.records) i) p ≡ true
      → StandsAt (tables_of D) (group_of i (number_of p)) setting.base (length image) (layout_of x₀ (view t.records) i) (places_of image setting.base x₀ (view t.records) i) p
  element-stands i l p e =
      let n : ℕ = all_elements image setting.base x₀ t.records in
      let q : Placed (tables_of D) (group_of i (number_of p)) setting.base (length image) (type_of (layout_of x₀ (view t.records) i) p) (address_of (places_of image setting.base x₀ (view t.records) i) p)
      (across_of (places_of image setting.base x₀ (view t.records) i) p) (down_of (places_of image setting.base x₀ (view t.records) i) p) =
      rw t.is_built (part_placed image setting x₀ t.records n kept i l (stood image setting x₀ t.records n kept (taken-judged image setting x₀ D t) i l) p e) in
      record {
        address = omega (arith, q.at_is, q.above, q.fits);
        type = q.kind_is;
        across = omega (arith, q.cx_is, q.few_x);
        down = omega (arith, q.cy_is, q.few_y);
        inside = λ j b. omega (arith, inside-at (group_of i (number_of p)) j (omega (arith, groups-are, part-few p)) b);
      }
