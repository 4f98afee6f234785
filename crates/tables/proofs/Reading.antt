-- What the table rule gives to whoever reads by the tables.
--     element-inside, counter-inside     every element's bytes and every stored count are inside the image
--     name-inside, entry-inside, default-inside     text places are inside the description
--     method-below, verbal-below, entries_below     references are below their counts
--     measurement-forbidden     a MEASUREMENT is marked as not to be written
--     total-is, total-most      the head says how many elements there are, at most 4,096
use Prim.Native.Nat.{ℕ, suc, ◌+◌, ◌*◌, ◌%◌, ◌≤◌, ◌<◌}
use mathlib.Core.Path.{◌≡◌, refl}
use mathlib.Core.List.{List}
use mathlib.Core.Bool.{Bool, true, false, cond, ◌&&◌, ◌||◌, false≢true}
use native.Mathlib.Omega.{arith}
use native.Mathlib.Nat.{mul-le-mul_left, mul-suc, zero-mul}
use borrow.Author.Tests.{eqb-true, leb-true, ne_eqb, eq-eqb}
use lib.Dec.{eqb, leb, ltb}
use Rattle.number.specs.Most.{most_elements, most_points}
use Rattle.cell.specs.Kind.{shape_of, is_type}
use Rattle.cell.specs.Mask.{mask_rule}
use Rattle.rows.specs.Codes.{MEASUREMENT}
use Rattle.convert.specs.Edition.{is_edition}
use Rattle.tables.specs.Form.{head_section, object_section, group_section, method_section, table_section, entry_section, Tables, tables_in, edition, total, kind, place, x, y, wide, high, walk, method_of, mask, forbidden, counter, counter_place}
use Rattle.number.specs.Below.{sum_below, all_below}
use Rattle.tables.specs.Group.{group_of, position, elements, bytes, place_of}
use Rattle.tables.specs.Rule.{text_rule, inside_rule, value_rule, measurement_rule, parts_rule, object_rule, is_no_part, points_rule, counter_rule, axis_rule, values_rule, limits_rule, bytes_rule, role_rule, part_rule, group_rule, verbal_rule, method_rule, table_rule, entry_rule, head_rule, ruled, form_rule, keeps_rule}
use Rattle.tables.proofs.All.{left, right, three, five, six, all-at}
use Rattle.tables.proofs.Addressing.{position-below}

text-facts : (n a b : ℕ) → text_rule n a b ≡ true → (a ≤ b) × (b ≤ n)
unfolding text_rule
text-facts n a b h = (leb-true a b (left (leb a b) (leb b n) h), leb-true b n (right (leb a b) (leb b n) h))

-- of two tests one holds
either : (a b : Bool) → a ≡ false → (a || b) ≡ true → b ≡ true
either a b p h = rw p at h

-- ---- one group

module _ (T : Tables) (g m : ℕ) where
  -- a part that is not stored is zeros
  zero-slot : is_no_part T g ≡ true → (k : ℕ) → k < 19 → T.slots group_section g k ≡ 0
  unfolding is_no_part
  zero-slot h k l = eqb-true (T.slots group_section g k) 0 (all-at 19 (λ i. eqb (T.slots group_section g i) 0) h k l)

  none-empty : is_no_part T g ≡ true → elements T g ≡ 0
  none-empty h = rw (zero-slot h 3 (omega arith)) (zero-mul (y T g))

  -- what the rule says of a part that is stored
  pub record Part : Type 0 where
    pub same_wide : wide T g ≡ x T g
    pub same_high : high T g ≡ y T g
    pub in_image : place T g + bytes T g * (wide T g * high T g) ≤ m
    pub role : role_rule T g m ≡ true
    pub its_method : method_of T g ≤ T.counts method_section

  part-facts : part_rule T g m ≡ true → Part
  unfolding part_rule points_rule bytes_rule inside_rule
  part-facts h =
      let u = three (is_type (kind T g) && leb (T.slots group_section g 1) 1 && points_rule T g && bytes_rule T g m && role_rule T g m && leb (method_of T g) (T.counts method_section)) (leb (T.slots group_section g 10) 1) (limits_rule T g) h in
      let v = six (is_type (kind T g)) (leb (T.slots group_section g 1) 1) (points_rule T g) (bytes_rule T g m) (role_rule T g m) (leb (method_of T g) (T.counts method_section)) u.0 in
      let p = three (leb 1 (x T g) && leb (x T g) most_points && leb 1 (y T g) && leb (y T g) most_points) (eqb (wide T g) (x T g)) (eqb (high T g) (y T g)) v.2 in
      record {
        same_wide = eqb-true (wide T g) (x T g) p.1;
        same_high = eqb-true (high T g) (y T g) p.2;
        in_image = leb-true (place T g + bytes T g * (wide T g * high T g)) m v.3;
        role = v.4;
        its_method = leb-true (method_of T g) (T.counts method_section) v.5;
      }

  -- only an axis stores its last point first, and it has one row
  one-row : role_rule T g m ≡ true → walk T g ≡ 1 → y T g ≡ 1
  unfolding role_rule axis_rule values_rule
  one-row h w = by-role (ltb (g % 3) 2) refl h where
    by-role : (b : Bool) → ltb (g % 3) 2 ≡ b → cond b (axis_rule T g m) (values_rule T g) ≡ true → y T g ≡ 1
    by-role true b h = eqb-true (y T g) 1 (five (leb (x T g) 256) (eqb (y T g) 1) (leb (walk T g) 1) (eqb (mask T g) 0) (counter_rule T g m) h).1
    by-role false b h =
        let v = three ((eqb (walk T g) 0 || eqb (walk T g) 2) && (eqb (mask T g) 0 || mask_rule (shape_of (kind T g)) (mask T g))) (eqb (counter T g) 0) (eqb (T.slots group_section g 18) 0) h in
        let z : (eqb (walk T g) 0 || eqb (walk T g) 2) ≡ true = left _ (eqb (mask T g) 0 || mask_rule (shape_of (kind T g)) (mask T g)) v.0 in
        absurd (false≢true (rw w at z))

  part-inside : Part → (i : ℕ) → i < elements T g → place_of T g i + bytes T g ≤ m
  unfolding place_of
  part-inside f i h =
      let l : position (walk T g) (x T g) (wide T g) (high T g) i < wide T g * high T g =
      position-below (walk T g) (x T g) (y T g) (wide T g) (high T g) (omega (arith, f.same_wide)) (omega (arith, f.same_high)) (one-row f.role) i h in
      let s : bytes T g * suc (position (walk T g) (x T g) (wide T g) (high T g) i) ≤ bytes T g * (wide T g * high T g) = mul-le-mul_left (bytes T g) l in
      omega (arith, f.in_image, mul-suc (bytes T g) (position (walk T g) (x T g) (wide T g) (high T g) i))

  counter-facts : counter_rule T g m ≡ true → (counter T g ≡ 0 → ⊥) → counter_place T g + (shape_of (counter T g)).bytes ≤ m
  unfolding counter_rule inside_rule
  counter-facts h d =
      let a : (eqb (counter T g) 0 && eqb (T.slots group_section g 18) 0) ≡ false = rw (ne_eqb (counter T g) 0 d) in
      let z = either (eqb (counter T g) 0 && eqb (T.slots group_section g 18) 0) (is_type (counter T g) && leb (counter_place T g + (shape_of (counter T g)).bytes) m) a h in
      leb-true (counter_place T g + (shape_of (counter T g)).bytes) m (right (is_type (counter T g)) (leb (counter_place T g + (shape_of (counter T g)).bytes) m) z)

  role-counter : role_rule T g m ≡ true → (counter T g ≡ 0 → ⊥) → counter_place T g + (shape_of (counter T g)).bytes ≤ m
  unfolding role_rule axis_rule values_rule
  role-counter h d = by-role (ltb (g % 3) 2) refl h where
    by-role : (b : Bool) → ltb (g % 3) 2 ≡ b → cond b (axis_rule T g m) (values_rule T g) ≡ true → counter_place T g + (shape_of (counter T g)).bytes ≤ m
    by-role true b h = counter-facts (five (leb (x T g) 256) (eqb (y T g) 1) (leb (walk T g) 1) (eqb (mask T g) 0) (counter_rule T g m) h).4 d
    by-role false b h =
        let v = three ((eqb (walk T g) 0 || eqb (walk T g) 2) && (eqb (mask T g) 0 || mask_rule (shape_of (kind T g)) (mask T g))) (eqb (counter T g) 0) (eqb (T.slots group_section g 18) 0) h in
        absurd (d (eqb-true (counter T g) 0 v.1))

  -- a group is zeros, or a part that is stored
  group-cases : {P : Type 0} → group_rule T g m ≡ true → (is_no_part T g ≡ true → P) → (Part → P) → P
  unfolding group_rule
  group-cases {P} h none some = by_kind (eqb (kind T g) 0) refl h where
    by_kind : (b : Bool) → eqb (kind T g) 0 ≡ b → cond b (is_no_part T g) (part_rule T g m) ≡ true → P
    by_kind true b h = none h
    by_kind false b h = some (part-facts h)

-- ---- the cells

-- the six parts of the rule
pub record Ruled (T : Tables) (n m : ℕ) : Type 0 where
  pub of_head : head_rule T ≡ true
  pub of_objects : all_below (T.counts object_section) (object_rule T n) ≡ true
  pub of_groups : all_below (T.counts group_section) (λ g. group_rule T g m) ≡ true
  pub of_methods : all_below (T.counts method_section) (method_rule T) ≡ true
  pub of_tables : all_below (T.counts table_section) (table_rule T n) ≡ true
  pub of_entries : all_below (T.counts entry_section) (entry_rule T n) ≡ true

pub rule-facts : (n m : ℕ) (t : List ℕ) → keeps_rule n m t ≡ true → Ruled (tables_in t) n m
unfolding keeps_rule ruled
rule-facts n m t h =
    let v =
    six (head_rule (tables_in t)) (all_below ((tables_in t).counts object_section) (object_rule (tables_in t) n)) (all_below ((tables_in t).counts group_section) (λ g. group_rule (tables_in t) g m))
    (all_below ((tables_in t).counts method_section) (method_rule (tables_in t))) (all_below ((tables_in t).counts table_section) (table_rule (tables_in t) n))
    (all_below ((tables_in t).counts entry_section) (entry_rule (tables_in t) n)) (right (form_rule t) (ruled (tables_in t) n m) h) in
    record { of_head = v.0; of_objects = v.1; of_groups = v.2; of_methods = v.3; of_tables = v.4; of_entries = v.5 }

-- what the head says
head-facts : (T : Tables) → head_rule T ≡ true → (is_edition (edition T) ≡ true) × (total T ≡ sum_below (T.counts group_section) (elements T)) × (total T ≤ most_elements) × (T.counts group_section ≡ T.counts object_section * 3)
unfolding head_rule
head-facts T h =
    let v = six (eqb (T.counts head_section) 1) (is_edition (edition T)) (eqb (T.slots head_section 0 1) 0) (eqb (total T) (sum_below (T.counts group_section) (elements T))) (leb (total T) most_elements) (eqb (T.counts group_section) (T.counts object_section * 3)) h in
    (v.1, eqb-true (total T) (sum_below (T.counts group_section) (elements T)) v.3, leb-true (total T) most_elements v.4, eqb-true (T.counts group_section) (T.counts object_section * 3) v.5)

-- what one record says
object-facts : (T : Tables) (n i : ℕ) → object_rule T n i ≡ true → (T.slots object_section i 0 ≤ T.slots object_section i 1) × (T.slots object_section i 1 ≤ n)
unfolding object_rule
object-facts T n i h = text-facts n (T.slots object_section i 0) (T.slots object_section i 1) (left (text_rule n (T.slots object_section i 0) (T.slots object_section i 1)) (parts_rule T i (T.slots object_section i 2)) h)

measurement-facts : (T : Tables) (n i : ℕ) → object_rule T n i ≡ true → T.slots object_section i 2 ≡ MEASUREMENT → T.slots group_section (group_of i 2) 10 ≡ 1
unfolding object_rule parts_rule measurement_rule
measurement-facts T n i h e =
    let p : parts_rule T i (T.slots object_section i 2) ≡ true = right (text_rule n (T.slots object_section i 0) (T.slots object_section i 1)) (parts_rule T i (T.slots object_section i 2)) h in
    let q : measurement_rule T i ≡ true = rw e at p in
    eqb-true (T.slots group_section (group_of i 2) 10) 1 (right (value_rule T i) (eqb (T.slots group_section (group_of i 2) 10) 1) q)

entry-facts : (T : Tables) (n i : ℕ) → entry_rule T n i ≡ true → (T.slots entry_section i 2 ≤ T.slots entry_section i 3) × (T.slots entry_section i 3 ≤ n)
unfolding entry_rule
entry-facts T n i h = text-facts n (T.slots entry_section i 2) (T.slots entry_section i 3) (right (leb (T.slots entry_section i 0) 1) (text_rule n (T.slots entry_section i 2) (T.slots entry_section i 3)) h)

table-facts : (T : Tables) (n i : ℕ) → table_rule T n i ≡ true
    → (T.slots table_section i 0 + T.slots table_section i 1 ≤ T.counts entry_section) × (T.slots table_section i 2 ≤ T.slots table_section i 3) × (T.slots table_section i 3 ≤ n)
unfolding table_rule
table-facts T n i h =
    let v = text-facts n (T.slots table_section i 2) (T.slots table_section i 3) (right (leb (T.slots table_section i 0 + T.slots table_section i 1) (T.counts entry_section)) (text_rule n (T.slots table_section i 2) (T.slots table_section i 3)) h) in
    (leb-true (T.slots table_section i 0 + T.slots table_section i 1) (T.counts entry_section) (left (leb (T.slots table_section i 0 + T.slots table_section i 1) (T.counts entry_section)) (text_rule n (T.slots table_section i 2) (T.slots table_section i 3)) h), v.0, v.1)

verbal-facts : (T : Tables) (i : ℕ) → method_rule T i ≡ true → T.slots method_section i 0 ≡ 22 → (1 ≤ T.slots method_section i 9) × (T.slots method_section i 9 ≤ T.counts table_section)
unfolding method_rule verbal_rule
verbal-facts T i h e =
    let z : verbal_rule T i ≡ true = rw (eq-eqb (T.slots method_section i 0) 22 e) at h in
    let v = three (all_below 8 (λ k. eqb (T.slots method_section i (k + 1)) 0)) (leb 1 (T.slots method_section i 9)) (leb (T.slots method_section i 9) (T.counts table_section)) z in
    (leb-true 1 (T.slots method_section i 9) v.1, leb-true (T.slots method_section i 9) (T.counts table_section) v.2)

module _ (n m : ℕ) (t : List ℕ) (h : keeps_rule n m t ≡ true) where
  -- what holds of every group that is zeros and of every part that is stored
  of-group : {P : Type 0} (g : ℕ) → g < (tables_in t).counts group_section → (is_no_part (tables_in t) g ≡ true → P) → (Part (tables_in t) g m → P) → P
  of-group g l = group-cases (tables_in t) g m (all-at ((tables_in t).counts group_section) (λ i. group_rule (tables_in t) i m) (rule-facts n m t h).of_groups g l)

  -- "each element's bytes .. inside the image"
  pub element-inside : (g i : ℕ) → g < (tables_in t).counts group_section → i < elements (tables_in t) g → place_of (tables_in t) g i + bytes (tables_in t) g ≤ m
  element-inside g i l p =
      of-group g l (λ z. absurd (omega (arith, none-empty (tables_in t) g m z)))
      (λ f. part-inside (tables_in t) g m f i p)

  -- "each stored count inside the image"
  pub counter-inside : (g : ℕ) → g < (tables_in t).counts group_section → (counter (tables_in t) g ≡ 0 → ⊥) → counter_place (tables_in t) g + (shape_of (counter (tables_in t) g)).bytes ≤ m
  counter-inside g l d = of-group g l (λ z. absurd (d (zero-slot (tables_in t) g m z 17 (omega arith)))) (λ f. role-counter (tables_in t) g m f.role d)

  -- "text places inside the description"
  pub name-inside : (i : ℕ) → i < (tables_in t).counts object_section → ((tables_in t).slots object_section i 0 ≤ (tables_in t).slots object_section i 1) × ((tables_in t).slots object_section i 1 ≤ n)
  name-inside i l = object-facts (tables_in t) n i (all-at ((tables_in t).counts object_section) (object_rule (tables_in t) n) (rule-facts n m t h).of_objects i l)

  pub entry-inside : (i : ℕ) → i < (tables_in t).counts entry_section → ((tables_in t).slots entry_section i 2 ≤ (tables_in t).slots entry_section i 3) × ((tables_in t).slots entry_section i 3 ≤ n)
  entry-inside i l = entry-facts (tables_in t) n i (all-at ((tables_in t).counts entry_section) (entry_rule (tables_in t) n) (rule-facts n m t h).of_entries i l)

  of-table : (i : ℕ) → i < (tables_in t).counts table_section
      → ((tables_in t).slots table_section i 0 + (tables_in t).slots table_section i 1 ≤ (tables_in t).counts entry_section) × ((tables_in t).slots table_section i 2 ≤ (tables_in t).slots table_section i 3) × ((tables_in t).slots table_section i 3 ≤ n)
  of-table i l = table-facts (tables_in t) n i (all-at ((tables_in t).counts table_section) (table_rule (tables_in t) n) (rule-facts n m t h).of_tables i l)

  pub default-inside : (i : ℕ) → i < (tables_in t).counts table_section → ((tables_in t).slots table_section i 2 ≤ (tables_in t).slots table_section i 3) × ((tables_in t).slots table_section i 3 ≤ n)
  default-inside i l = ((of-table i l).1, (of-table i l).2)

  -- "every reference below its table's count": a method's number, a verbal table's (each stored with one more), and a table's entries
  pub method-below : (g : ℕ) → g < (tables_in t).counts group_section → method_of (tables_in t) g ≤ (tables_in t).counts method_section
  method-below g l = of-group g l (λ z. rw (zero-slot (tables_in t) g m z 8 (omega arith)) (omega arith)) (λ f. f.its_method)

  pub verbal-below : (i : ℕ) → i < (tables_in t).counts method_section → (tables_in t).slots method_section i 0 ≡ 22
      → (1 ≤ (tables_in t).slots method_section i 9) × ((tables_in t).slots method_section i 9 ≤ (tables_in t).counts table_section)
  verbal-below i l = verbal-facts (tables_in t) i (all-at ((tables_in t).counts method_section) (method_rule (tables_in t)) (rule-facts n m t h).of_methods i l)

  pub entries_below : (i : ℕ) → i < (tables_in t).counts table_section → (tables_in t).slots table_section i 0 + (tables_in t).slots table_section i 1 ≤ (tables_in t).counts entry_section
  entries_below i l = (of-table i l).0

  -- "MEASUREMENT or READ_ONLY" (21): of a MEASUREMENT the mark is there
  pub measurement-forbidden : (i : ℕ) → i < (tables_in t).counts object_section → (tables_in t).slots object_section i 2 ≡ MEASUREMENT → forbidden (tables_in t) (group_of i 2) ≡ true
  measurement-forbidden i l e =
      let o : object_rule (tables_in t) n i ≡ true = all-at ((tables_in t).counts object_section) (object_rule (tables_in t) n) (rule-facts n m t h).of_objects i l in
      rw (measurement-facts (tables_in t) n i o e)

  -- "The load takes the edition, 1 or 2, .. and the tables keep it."
  pub has-edition : is_edition (edition (tables_in t)) ≡ true
  has-edition = (head-facts (tables_in t) (rule-facts n m t h).of_head).0

  -- "4,096 elements in all objects"
  pub total-is : total (tables_in t) ≡ sum_below ((tables_in t).counts group_section) (elements (tables_in t))
  total-is = (head-facts (tables_in t) (rule-facts n m t h).of_head).1

  pub total-most : total (tables_in t) ≤ most_elements
  total-most = (head-facts (tables_in t) (rule-facts n m t h).of_head).2

  -- the groups are the objects' parts
  pub groups-are : (tables_in t).counts group_section ≡ (tables_in t).counts object_section * 3
  groups-are = (head-facts (tables_in t) (rule-facts n m t h).of_head).3
