-- THE SECOND DEMAND, for the call that reads: what it answers for each element of an accepted load, then and after any writes.
--     element-read     it is accepted, and answers what the description and the image say
--     is-element, place_is     the element that a request names, and its place in the image
use Prim.Native.Nat.{ℕ, ◌-◌, ◌*◌, ◌<◌}
use mathlib.Core.Path.{◌≡◌, refl}
use mathlib.Core.List.{List}
use mathlib.Core.Bool.{true}
use native.Mathlib.Omega.{arith}
use borrow.Author.Tests.{lt-ltb}
use lib.ListN.{length, get_or}
use Rattle.number.specs.Answer.{given}
use Rattle.cell.specs.Kind.{shape_of}
use Rattle.cell.specs.Raw.{raw_at}
use Rattle.records.specs.Records.{count}
use Rattle.rows.specs.Sections as records
use Rattle.grammar.specs.Move.{view}
use Rattle.objects.specs.Object.{layout_of, first_of, need_of}
use Rattle.tables.specs.declared.setting.Setting.{Setting}
use Rattle.tables.specs.Form.{object_section, tables_in}
use Rattle.tables.specs.Group.{group_of, elements, place_of}
use Rattle.tree.specs.Tree.{Records}
use Rattle.keeps.specs.Stands.{Part, number_of, needed, type_of, across_of, down_of}
use Rattle.look.specs.Element.{means, raw_in}
use Rattle.look.specs.Calls.{lent_of, checked, is_element, Reading, reading_of, reading}
use Rattle.demands.specs.Rules.{Fits, Keeps}
use Rattle.demands.specs.Standing.{part_mask, element_at}
use Rattle.demands.specs.Readings.{ReadsAs}
use Rattle.demands.proofs.Loaded as loaded
use Rattle.demands.proofs.Standing.{part_held}
use Rattle.demands.proofs.Valued.{value-by}

module _ (x image : List ℕ) (setting : Setting) (lent work : List ℕ) (f : Fits x image setting lent work) (k : Keeps x image setting.base) where
  abbrev d : Records
  d = k.records

  abbrev t : List ℕ
  t = loaded.t x image setting lent work f k

  -- element j of part p of object i
  module _ (i : ℕ) (l : i < count d records.object) (p : Part) (e : needed (need_of image setting.base x (view d) i) p ≡ true) (j : ℕ) where
    abbrev g : ℕ
    g = group_of i (number_of p)

    pub is-element : j < across_of (k.objects i l).places p * down_of (k.objects i l).places p → is_element (tables_in t) i (number_of p) j ≡ true
    unfolding is_element
    is-element below =
        let h = (part_held x image setting lent work f k i l p e).stands in
        rw (
          lt-ltb i ((tables_in t).counts object_section) (rw (loaded.objects-of x image setting lent work f k) l),
          lt-ltb (number_of p) 3 (loaded.part_below p),
          lt-ltb j (elements (tables_in t) g) (rw (h.across, h.down) below),
        )

    pub place_is : place_of (tables_in t) g j ≡ element_at x (view d) i (layout_of x (view d) i) (k.objects i l).places p j - setting.base
    place_is = omega (arith, (part_held x image setting lent work f k i l p e).element j)

  -- in an image of bytes as long as the load's: the same, or what writes have left
  module _ (now : List ℕ) (long : length now ≡ length image) (bytes : (j : ℕ) → get_or now j 0 < 256) (i : ℕ) (l : i < count d records.object) (p : Part) (e : needed (need_of image setting.base x (view d) i) p ≡ true) (j : ℕ)
      (below : j < across_of (k.objects i l).places p * down_of (k.objects i l).places p) where
    -- what the call answers
    abbrev answer : Reading
    answer = reading_of (tables_in t) (group_of i (number_of p)) (raw_in (tables_in t) now (group_of i (number_of p)) j)

    answered : reading t now (lent_of (length x) (length now) setting.base) i (number_of p) j ≡ given answer
    unfolding reading checked
    answered = rw (long, loaded.sizes x image setting lent work f k, loaded.keeps-rule x image setting lent work f k, is-element i l p e j below)

    raw-is : raw_in (tables_in t) now (group_of i (number_of p)) j
        ≡ raw_at (first_of (view d) i) (element_at x (view d) i (layout_of x (view d) i) (k.objects i l).places p j - setting.base) (shape_of (type_of (layout_of x (view d) i) p)) (part_mask x (view d) i p) now
    unfolding raw_in
    raw-is =
        let h = part_held x image setting lent work f k i l p e in
        rw (h.order, h.stands.type, h.masked, place_is i l p e j)

    pub element-read : (r : Reading) × (reading t now (lent_of (length x) (length now) setting.base) i (number_of p) j ≡ given r)
        × ReadsAs x (view d) i now setting.base (layout_of x (view d) i) (k.objects i l).places p j r
    element-read = (
      answer,
      answered,
      record {
        raw = raw-is;
        value = means (tables_in t) (group_of i (number_of p)) (raw_in (tables_in t) now (group_of i (number_of p)) j);
        by = value-by x image setting lent work f k i l p e now bytes j;
        is_held = refl;
        is_shown = refl;
      },
    )
