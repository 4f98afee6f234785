-- WHY THESE ARE AN ELEMENT'S BITS: "its mask's, where they stand by its byte order; without a mask all bits of its bytes."
--     bits-exactly     they are the bits that reading the element tells, and no others
--     bits-described     where they stand, by the description of an accepted load
-- Assumes nothing.
use Prim.Native.Nat.{ℕ, ◌+◌, ◌-◌, ◌*◌, ◌≤◌, ◌<◌}
use mathlib.Core.Path.{◌≡◌, sym, ap, ◌∙◌}
use mathlib.Core.List.{List}
use mathlib.Core.Bool.{true}
use mathlib.Core.Logic.{◌↔◌}
use native.Mathlib.Omega.{arith}
use lib.Bits.{bit_and}
use lib.IntN.{ℤ}
use lib.ListN.{length, get_or}
use Rattle.number.specs.Answer.{given}
use Rattle.cell.specs.Kind.{shape_of}
use Rattle.bits.specs.Bits.{bits_in}
use Rattle.bits.proofs.Exactly.{reads-exactly}
use Rattle.records.specs.Records.{count}
use Rattle.rows.specs.Sections as records
use Rattle.grammar.specs.Move.{view}
use Rattle.objects.specs.Object.{layout_of, first_of, need_of}
use Rattle.tables.specs.declared.setting.Setting.{Setting}
use Rattle.tables.specs.Form.{tables_in, kind, first, mask}
use Rattle.tables.specs.Group.{group_of, bytes, place_of}
use Rattle.tables.specs.Rule.{keeps_rule}
use Rattle.tables.proofs.Reading.{element-inside, groups-are}
use Rattle.keeps.specs.Stands.{Part, number_of, needed, type_of, across_of, down_of}
use Rattle.look.specs.Element.{raw_in}
use Rattle.look.specs.Calls.{lent_of, is_element, Reading, reading_of, reading}
use Rattle.look.proofs.CheckLaws.{named}
use Rattle.demands.specs.Rules.{Fits, Keeps}
use Rattle.demands.specs.Standing.{part_mask, element_at}
use Rattle.demands.specs.Either.{element_bits}
use Rattle.demands.proofs.Loaded as loaded
use Rattle.demands.proofs.Standing.{part_held}
use Rattle.demands.proofs.Readings.{is-element, place_is}
use Rattle.demands.proofs.Runs.{reading-of}

-- an element's bytes are bytes of the image
inside : (t : List ℕ) (n m o p i : ℕ) → is_element (tables_in t) o p i ≡ true → keeps_rule n m t ≡ true → place_of (tables_in t) (group_of o p) i + bytes (tables_in t) (group_of o p) ≤ m
inside t n m o p i e r =
    let q = named t o p i e in
    element-inside n m t r (group_of o p) i (omega (arith, q.object_below, q.part_below, groups-are n m t r)) q.index_below

-- tables t, n bytes of description, a base address; two images of bytes from which element i of part p of object o can be read
module _ (t : List ℕ) (n base : ℕ) (I J : List ℕ) (bytesI : (j : ℕ) → get_or I j 0 < 256) (bytesJ : (j : ℕ) → get_or J j 0 < 256) (o p i : ℕ) (r s : Reading)
    (readI : reading t I (lent_of n (length I) base) o p i ≡ given r) (readJ : reading t J (lent_of n (length J) base) o p i ≡ given s) where
  abbrev g : ℕ
  g = group_of o p

  -- byte b has the same of the element's bits in both
  abbrev SameBits : ℕ → Type 0
  SameBits b = bit_and (get_or I b 0) (element_bits (tables_in t) o p i b) ≡ bit_and (get_or J b 0) (element_bits (tables_in t) o p i b)

  raws : (raw_in (tables_in t) I g i ≡ raw_in (tables_in t) J g i) ↔ ((b : ℕ) → SameBits b)
  unfolding raw_in element_bits
  raws =
      let T = tables_in t in
      let a = reading-of t I (lent_of n (length I) base) o p i r readI in
      let c = reading-of t J (lent_of n (length J) base) o p i s readJ in
      rw a.0 (reads-exactly (first T g) (place_of T g i) (shape_of (kind T g)) (mask T g) I J bytesI bytesJ (inside t n (length I) o p i a.0 a.1) (inside t n (length J) o p i a.0 c.1))

  pub bits-exactly : (r ≡ s) ↔ ((b : ℕ) → SameBits b)
  bits-exactly =
      let a = reading-of t I (lent_of n (length I) base) o p i r readI in
      let c = reading-of t J (lent_of n (length J) base) o p i s readJ in (
        λ e. raws.0 (ap (λ (y : Reading). y.raw) (a.2 ∙ e ∙ sym c.2)),
        λ h. sym a.2 ∙ ap (λ (z : ℤ). reading_of (tables_in t) g z) (raws.1 h) ∙ c.2,
      )

module _ (x image : List ℕ) (setting : Setting) (lent work : List ℕ) (f : Fits x image setting lent work) (k : Keeps x image setting.base) where
  -- by the object's byte order, at the element's address, with the bytes of its data type and the object's mask
  pub bits-described : (i : ℕ) (l : i < count k.records records.object) (p : Part) → needed (need_of image setting.base x (view k.records) i) p ≡ true
      → (j : ℕ) → j < across_of (k.objects i l).places p * down_of (k.objects i l).places p → (b : ℕ)
      → element_bits (tables_in (loaded.t x image setting lent work f k)) i (number_of p) j b
      ≡ bits_in (first_of (view k.records) i) (element_at x (view k.records) i (layout_of x (view k.records) i) (k.objects i l).places p j - setting.base)
      (shape_of (type_of (layout_of x (view k.records) i) p)).bytes (part_mask x (view k.records) i p) b
  unfolding element_bits
  bits-described i l p e j below b =
      let h = part_held x image setting lent work f k i l p e in
      rw (is-element x image setting lent work f k i l p e j below)
      (λ v. bits_in (h.order v) (place_is x image setting lent work f k i l p e j v) (shape_of (h.stands.type v)).bytes (h.masked v) b)
