-- What an accepted write of an element keeps and changes: the lemmas behind the demand's theorems.
use mathlib.Core.Path.{◌≡◌, refl, sym, ap, ◌∙◌, subst}
use mathlib.Core.List.{List}
use mathlib.Core.Bool.{Bool, true, false, cond, not, ◌&&◌, ◌||◌}
use mathlib.Core.Logic.{◌⊎◌}
use Prim.Native.Nat.{ℕ, zero, suc, ◌+◌, ◌%◌, ◌^◌, ◌≤◌, ◌<◌}
use native.Mathlib.Nat.{pow-suc}
use native.Mathlib.Omega.{arith}
use borrow.Author.Tests.{ltb-true, eqb-true}
use lib.Bits.{bit_and}
use lib.Dec.{ltb, leb, eqb}
use lib.IntN.{ℤ}
use lib.ListN.{length, get_or}
use Rattle.number.specs.Answer.{Answer, given, refused}
use Rattle.cell.specs.Kind.{shape_of, is_type}
use Rattle.cell.specs.Mask.{mask_rule, outside}
use Rattle.cell.specs.Raw.{fits_raw}
use Rattle.cell.specs.Bytes.{stored_at}
use Rattle.cell.proofs.Shapes.{bytes_le}
use Rattle.cell.proofs.Laws as cell_laws
use Rattle.convert.specs.Asked.{asked_raw}
use Rattle.convert.specs.Edition.{halves_of}
use Rattle.convert.proofs.Laws.{asked-stores}
use Rattle.tables.specs.Form.{group_section, method_section, Tables, tables_in, edition, kind, first, mask, walk, x, y, counter, method_of, limit}
use Rattle.number.specs.Below.{sum_below}
use Rattle.tables.specs.Group.{elements, bytes, place_of}
use Rattle.tables.specs.Rule.{is_no_part, points_rule, counter_rule, axis_rule, values_rule, limits_rule, bytes_rule, role_rule, part_rule, group_rule, keeps_rule}
use Rattle.tables.specs.Sizes.{sizes_fit}
use Rattle.tables.proofs.All.{left, right, three, five, six, all-at}
use Rattle.tables.proofs.Reading.{rule-facts, groups-are}
use Rattle.look.specs.Element.{raw_in, line_of, touched}
use Rattle.look.specs.Calls.{Lent, lent_by, is_element, Kept, room, groups, has_room, remade, refreshed, After, afterwards, Wanted, raw_number, physical_text, Request, group_in, asks_by, is_tab_verb, wanted_raw, judged_request, stored, written_to, writing, line_at, with_image}
use Rattle.look.specs.Steps.{element_no}
use Rattle.look.proofs.CheckLaws.{checked-tests, named}
use Rattle.wanted.proofs.StandLaws.{Stands, standing-refused, standing-passed, stands-so}
use Rattle.list.proofs.Writer.{SameOutside, line-alone, writer-remade, line_kept, rest-kept, room-refreshed, refreshed-swap, Anew, writer-anew}

pub never : {A : Type 0} (n : ℕ) (a : A) → refused n ≡ given a → ⊥
never n a e = let z : ◌≡◌ {A = ℕ} 0 1 = cc in omega arith

pub same-refused : {A : Type 0} (m n : ℕ) → ◌≡◌ {A = Answer A} (refused m) (refused n) → m ≡ n
same-refused m n e = cc

pub same-given : {A : Type 0} (a b : A) → given a ≡ given b → a ≡ b
same-given a b e = cc

-- ---- what the rule says of a mask
one-le : (w : ℕ) → 1 ≤ 256 ^ w
one-le zero = omega arith
one-le (suc w) = rw (pow-suc 256 w) (let h = one-le w in omega arith)

module _ (T : Tables) (g m : ℕ) where
  abbrev Within : Type 0
  Within = mask T g < 256 ^ bytes T g

  by_zero : mask T g ≡ 0 → Within
  by_zero e = rw e (one-le (bytes T g))

  by-rule : mask_rule (shape_of (kind T g)) (mask T g) ≡ true → Within
  unfolding mask_rule
  by-rule h = ltb-true (mask T g) (256 ^ bytes T g) (right (not (shape_of (kind T g)).signed && ltb 0 (mask T g)) (ltb (mask T g) (256 ^ bytes T g)) h)

  or_cases : (a b : Bool) → (a || b) ≡ true → (a ≡ true → Within) → (b ≡ true → Within) → Within
  or_cases true b h f k = f refl
  or_cases false b h f k = k h

  by_values : values_rule T g ≡ true → Within
  unfolding values_rule
  by_values h =
      let a = (eqb (walk T g) 0 || eqb (walk T g) 2) in
      let b = (eqb (mask T g) 0 || mask_rule (shape_of (kind T g)) (mask T g)) in
      let c = eqb (counter T g) 0 in
      or_cases (eqb (mask T g) 0) (mask_rule (shape_of (kind T g)) (mask T g)) (three a b c (left (a && b && c) (eqb (T.slots group_section g 18) 0) h)).1
      (λ e. by_zero (eqb-true (mask T g) 0 e)) by-rule

  by-axis : axis_rule T g m ≡ true → Within
  unfolding axis_rule
  by-axis h = by_zero (eqb-true (mask T g) 0 (five (leb (x T g) 256) (eqb (y T g) 1) (leb (walk T g) 1) (eqb (mask T g) 0) (counter_rule T g m) h).3)

  by-role : role_rule T g m ≡ true → Within
  unfolding role_rule
  by-role = go (ltb (g % 3) 2)
    where
      go : (b : Bool) → cond b (axis_rule T g m) (values_rule T g) ≡ true → Within
      go true h = by-axis h
      go false h = by_values h

  by_part : part_rule T g m ≡ true → Within
  unfolding part_rule
  by_part h =
      let u = three (is_type (kind T g) && leb (T.slots group_section g 1) 1 && points_rule T g && bytes_rule T g m && role_rule T g m && leb (method_of T g) (T.counts method_section)) (leb (T.slots group_section g 10) 1) (limits_rule T g) h in
      by-role (six (is_type (kind T g)) (leb (T.slots group_section g 1) 1) (points_rule T g) (bytes_rule T g m) (role_rule T g m) (leb (method_of T g) (T.counts method_section)) u.0).4

  by_none : is_no_part T g ≡ true → Within
  unfolding is_no_part
  by_none h = by_zero (eqb-true (T.slots group_section g 9) 0 (all-at 19 (λ k. eqb (T.slots group_section g k) 0) h 9 (omega arith)))

  by-group : group_rule T g m ≡ true → Within
  unfolding group_rule
  by-group = go (eqb (kind T g) 0)
    where
      go : (b : Bool) → cond b (is_no_part T g) (part_rule T g m) ≡ true → Within
      go true h = by_none h
      go false h = by_part h

-- "masks as above": within the type
pub mask-inside : (n m : ℕ) (t : List ℕ) → keeps_rule n m t ≡ true → (g : ℕ) → g < groups t → mask (tables_in t) g < 256 ^ bytes (tables_in t) g
mask-inside n m t h g l = by-group (tables_in t) g m (all-at (groups t) (λ i. group_rule (tables_in t) i m) (rule-facts n m t h).of_groups g l)

-- ---- what an accepted request is
pub record Accepted (t : List ℕ) (l : Lent) (enough : Bool) (q : Request) (z : ℤ) : Type 0 where
  pub sizes : sizes_fit l.text l.image l.base (length t) ≡ true
  pub room_enough : enough ≡ true
  pub rule : keeps_rule l.text l.image t ≡ true
  pub element : is_element (tables_in t) q.object q.part q.index ≡ true
  pub group_below : group_in q < groups t
  pub index_below : q.index < elements (tables_in t) (group_in q)
  pub wants : wanted_raw (tables_in t) (group_in q) q.wanted ≡ given z

pub accepted : (t : List ℕ) (l : Lent) (enough : Bool) (q : Request) (z : ℤ) → judged_request t l enough q ≡ given z → Accepted t l enough q z
unfolding judged_request
accepted t l enough q z h = go (element_no t l enough q.object q.part q.index) refl
  where
    by-stands : Stands t l enough q.object q.part q.index → wanted_raw (tables_in t) (group_in q) q.wanted ≡ given z → Accepted t l enough q z
    by-stands s w =
        let c = checked-tests t l enough 0 (sym s.checks) refl in
        let r = c.1 in
        let e = named t q.object q.part q.index s.element in
        let u = groups-are l.text l.image t r in
        record {
          sizes = left (sizes_fit l.text l.image l.base (length t)) enough c.0;
          room_enough = right (sizes_fit l.text l.image l.base (length t)) enough c.0;
          rule = r;
          element = s.element;
          group_below = omega (arith, e.object_below, e.part_below, u);
          index_below = e.index_below;
          wants = w;
        }

    go : (r : ℕ) → element_no t l enough q.object q.part q.index ≡ r → Accepted t l enough q z
    go zero e =
        by-stands (stands-so t l enough q.object q.part q.index 0 (sym e) refl)
        (sym (standing-passed t l enough q.object q.part q.index 0 (sym e) (wanted_raw (tables_in t) (group_in q) q.wanted) refl) ∙ h)
    go (suc r) e =
        absurd (never (suc r) z
        (standing-refused t l enough q.object q.part q.index (suc r) (sym e) (wanted_raw (tables_in t) (group_in q) q.wanted) (λ y. omega arith) ∙ h))

-- what is stored fits type and mask
pub wanted-fits : (T : Tables) (g : ℕ) (w : Wanted) (z : ℤ) → wanted_raw T g w ≡ given z → fits_raw (shape_of (kind T g)) (mask T g) z ≡ true
wanted-fits T g (raw_number y) z = go (fits_raw (shape_of (kind T g)) (mask T g) y) refl
  where
    go : (b : Bool) → fits_raw (shape_of (kind T g)) (mask T g) y ≡ b → cond b (given y) (refused 18) ≡ given z → fits_raw (shape_of (kind T g)) (mask T g) z ≡ true
    go true e h = subst (λ (v : ℤ). fits_raw (shape_of (kind T g)) (mask T g) v ≡ true) (same-given y z h) e
    go false e h = absurd (never 18 z h)
wanted-fits T g (physical_text s) z = go (is_tab_verb T g)
  where
    go : (b : Bool) → cond (not b) (asked_raw (halves_of (edition T)) (limit T g 11) (limit T g 14) (asks_by T g) (shape_of (kind T g)) (mask T g) s) (refused 15) ≡ given z
        → fits_raw (shape_of (kind T g)) (mask T g) z ≡ true
    go true h = absurd (never 15 z h)
    go false h = (asked-stores (halves_of (edition T)) (limit T g 11) (limit T g 14) (asks_by T g) (shape_of (kind T g)) (mask T g) s z h).fits

-- a raw write stores the number that is asked
pub wanted-raw : (T : Tables) (g : ℕ) (y z : ℤ) → wanted_raw T g (raw_number y) ≡ given z → y ≡ z
wanted-raw T g y z = go (fits_raw (shape_of (kind T g)) (mask T g) y)
  where
    go : (b : Bool) → cond b (given y) (refused 18) ≡ given z → y ≡ z
    go true h = same-given y z h
    go false h = absurd (never 18 z h)

-- ---- a write is refused or carried out
pub by_answer : (t : List ℕ) (n base : ℕ) (k : Kept) (q : Request) (P : After → Type 0)
    → ((c : ℕ) → judged_request t (lent_by n base k) (has_room t k) q ≡ refused c → P (record { answer = refused c; left = k }))
    → ((z : ℤ) → judged_request t (lent_by n base k) (has_room t k) q ≡ given z → P (record { answer = given (tt {0}); left = written_to t (group_in q) q.index k z }))
    → P (writing t n base k q)
unfolding writing
by_answer t n base k q P f g = go (judged_request t (lent_by n base k) (has_room t k) q) refl
  where
    go : (a : Answer ℤ) → judged_request t (lent_by n base k) (has_room t k) q ≡ a → P (afterwards a k (written_to t (group_in q) q.index k))
    go (given z) e = g z e
    go (refused c) e = f c e

pub refused-answer : (t : List ℕ) (n base : ℕ) (k : Kept) (q : Request) (c : ℕ) → judged_request t (lent_by n base k) (has_room t k) q ≡ refused c → (writing t n base k q).answer ≡ refused c
refused-answer t n base k q c h =
    by_answer t n base k q (λ (a : After). a.answer ≡ refused c) (λ d e. ap (λ (m : ℕ). refused m) (sym (same-refused c d (sym h ∙ e)))) (λ z e. absurd (never c z (sym h ∙ e)))

-- ---- an element's bytes, and the image with a raw number stored in them
module _ (t : List ℕ) (g i : ℕ) where
  abbrev pub low : ℕ
  low = place_of (tables_in t) g i

  abbrev pub high : ℕ
  high = place_of (tables_in t) g i + bytes (tables_in t) g

  pub length-stored : (image : List ℕ) (z : ℤ) → length (stored t g i image z) ≡ length image
  unfolding stored
  length-stored image z = cell_laws.length-kept (first (tables_in t) g) low (shape_of (kind (tables_in t) g)) (mask (tables_in t) g) z image

  pub bytes-stored : (image : List ℕ) (z : ℤ) (j : ℕ) → (j < low) ⊎ (high ≤ j) → get_or (stored t g i image z) j 0 ≡ get_or image j 0
  unfolding stored
  bytes-stored image z j o = cell_laws.bytes-kept (first (tables_in t) g) low (shape_of (kind (tables_in t) g)) (mask (tables_in t) g) z image j o

  module _ (image : List ℕ) (z : ℤ) (within : mask (tables_in t) g < 256 ^ bytes (tables_in t) g) (b : (j : ℕ) → get_or image j 0 < 256) where
    pub bits-stored : 0 < mask (tables_in t) g
        → bit_and (stored_at (first (tables_in t) g) low (bytes (tables_in t) g) (stored t g i image z)) (outside (mask (tables_in t) g))
        ≡ bit_and (stored_at (first (tables_in t) g) low (bytes (tables_in t) g) image) (outside (mask (tables_in t) g))
    unfolding stored
    bits-stored h = cell_laws.bits-kept (first (tables_in t) g) low (shape_of (kind (tables_in t) g)) (mask (tables_in t) g) z image (bytes_le (kind (tables_in t) g)) within b h

    pub raw-stored : fits_raw (shape_of (kind (tables_in t) g)) (mask (tables_in t) g) z ≡ true → high ≤ length image → raw_in (tables_in t) (stored t g i image z) g i ≡ z
    unfolding stored raw_in
    raw-stored f l = cell_laws.read_back (first (tables_in t) g) low (shape_of (kind (tables_in t) g)) (mask (tables_in t) g) z image (bytes_le (kind (tables_in t) g)) within b f l

  pub image-after : (k : Kept) (z : ℤ) → (written_to t g i k z).image ≡ stored t g i k.image z
  unfolding written_to refreshed
  image-after k z = refl

  -- ---- an element's write is one that changes the element's bytes and no other
  pub element-outside : (image : List ℕ) (z : ℤ) → SameOutside image (stored t g i image z) low high
  element-outside image z = record { long = sym (length-stored image z); else = λ j o. sym (bytes-stored image z j o) }

  -- a list that is made anew is made anew after the write
  pub write-remade : (k : Kept) (z : ℤ) → written_to t g i (remade t k) z ≡ remade t (with_image (stored t g i k.image z) k)
  unfolding written_to remade
  write-remade k z = writer-remade t k.image (stored t g i k.image z) low high (element-outside k.image z) k

  -- a line whose element shares no byte, and what stands past the lines, stay
  pub apart-line : (k : Kept) (z : ℤ) (h j : ℕ) → h < groups t → j < elements (tables_in t) h → touched (tables_in t) low high h j ≡ false
      → line_at (written_to t g i k z) (sum_below h (elements (tables_in t)) + j) ≡ line_at k (sum_below h (elements (tables_in t)) + j)
  unfolding written_to
  apart-line k z = line_kept (touched (tables_in t) low high) t (stored t g i k.image z) k

  pub past-line : (k : Kept) (z : ℤ) (j : ℕ) → sum_below (groups t) (elements (tables_in t)) ≤ j → line_at (written_to t g i k z) j ≡ line_at k j
  unfolding written_to
  past-line k z = rest-kept (touched (tables_in t) low high) t (stored t g i k.image z) k

  -- and there is as much room as before
  pub room-written : (k : Kept) (z : ℤ) → sum_below (groups t) (elements (tables_in t)) ≤ room k → room (written_to t g i k z) ≡ room k
  unfolding written_to
  room-written k z = room-refreshed (touched (tables_in t) low high) t (stored t g i k.image z) k

-- two elements written whose images come out alike in either order: so do the lists, whatever they held
pub written-to-swap : (t : List ℕ) (g i h j : ℕ) (k : Kept) (z y : ℤ)
    → stored t h j (stored t g i k.image z) y ≡ stored t g i (stored t h j k.image y) z
    → written_to t h j (written_to t g i k z) y ≡ written_to t g i (written_to t h j k y) z
unfolding written_to refreshed
written-to-swap t g i h j k z y e =
    let I = stored t g i k.image z in
    let I' = stored t h j k.image y in
    let J = stored t h j I y in
    let s = touched (tables_in t) (low t g i) (high t g i) in
    let s' = touched (tables_in t) (low t h j) (high t h j) in
    refreshed-swap t I I' J s s' k
    (λ a b f. line-alone t I J (low t h j) (high t h j) (element-outside t h j I y) a b f)
    (λ a b f. line-alone t I' (stored t g i I' z) (low t g i) (high t g i) (element-outside t g i I' z) a b f ∙ ap (λ (x : List ℕ). line_of (tables_in t) x a b) (sym e))
    ∙ ap (λ (x : List ℕ). refreshed s t x (refreshed s' t I' k)) e

-- what is kept stays the list made anew, whether the request is refused or carried out
pub write-anew : (t : List ℕ) (n base : ℕ) (k c : Kept) → Anew t k c → (q : Request) → Anew t k (writing t n base c q).left
unfolding written_to
write-anew t n base k c a q =
    by_answer t n base c q (λ (y : After). Anew t k y.left) (λ d e. a)
    (λ z e. writer-anew t k c a (stored t (group_in q) q.index c.image z) (low t (group_in q) q.index) (high t (group_in q) q.index)
    (element-outside t (group_in q) q.index c.image z))
