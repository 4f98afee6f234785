-- THE SECOND DEMAND, to be read beside document 01: "a description with its image is accepted exactly if it keeps the written rules. Every element then stands at
-- the address and width its layout gives, inside the image; its physical value is the exact fraction or text, or none. A physical write stores the whole number
-- nearest to what the conversion asks, by the edition's rule on halves, or is refused." (With document 02's wish 2 it is refused also where the stored number would mean a value
-- outside the limits, or none.)
--     accepted-exactly     a load is accepted exactly if what is lent is large enough and the rules are kept (specs/Rules, Placed, Leads; the text: tree, specs/Tree)
--     leaves               what the lent cells then hold
--     stands               every element, on the lent cells (specs/Standing)
--     reads                what the call that reads it answers (specs/Readings, Value)
--     stores               what an accepted physical write leaves (specs/Writings, Nearest)
--     stored-within        that its element then reads as a number within its limits (document 02, wish 2)
--     sixteen              what lies outside the limits where a physical write is 16
--     edition-kept         that an accepted load's tables hold the edition asked for (document 02, wish 7)
--     same-but-halves      that a write which asks for no exact half answers and leaves the same in both editions (specs/Editions)
--     exponent-exactly, as_before, narrower     which runs of bytes are read as decimals, with an exponent and without
--     decimals-exact, asked-alike     what they mean, in a description and in a write
--     none-exactly, whole-at-least-power, linear, six-types, type-word     of the conversions and data types in them (specs/Powers, Types)
use Prim.Native.Nat.{ℕ, ◌-◌, ◌*◌, ◌≤◌, ◌<◌, max}
use mathlib.Core.Path.{◌≡◌, sym}
use mathlib.Core.List.{List}
use mathlib.Core.Bool.{true, false}
use mathlib.Core.Logic.{◌↔◌}
use lib.IntN.{ℤ, pos, ◌-ℤ◌, ◌*ℤ◌}
use lib.ListN.{length, take, drop, get_or, replicate}
use Rattle.text.specs.Answer as text
use Rattle.number.specs.Answer.{given, refused}
use Rattle.number.specs.Decimal.{Scaled, Form, is_e, plain_of, decimal_of}
use Rattle.number.specs.Exact.{ExponentForm, Exact, SameNumber}
use Rattle.number.proofs.Exponents as exponents
use Rattle.number.proofs.ExponentForms as forms
use Rattle.cell.specs.Kind.{shape_of}
use Rattle.convert.specs.Fraction.{none, fraction}
use Rattle.convert.specs.Edition.{edition_one, edition_two}
use Rattle.convert.specs.Method.{rat_func, linear_at, linear_of}
use Rattle.convert.specs.declared.method.Coefficients.{Coefficients}
use Rattle.words.specs.Kind.{taken_choice}
use Rattle.words.specs.Class.{class_of}
use Rattle.records.specs.Records.{count}
use Rattle.rows.specs.Codes.{UBYTE, SLONG}
use Rattle.rows.specs.Sections.{object}
use Rattle.grammar.specs.Move.{view}
use Rattle.objects.specs.Object.{layout_of, need_of}
use Rattle.tables.specs.declared.setting.Setting.{Setting}
use Rattle.tables.specs.Form.{lower_cell, upper_cell, tables_in, edition, kind, mask, limit}
use Rattle.tables.specs.Group.{group_of}
use Rattle.tree.specs.Tree.{Decimal}
use Rattle.load.specs.Load.{loaded}
use Rattle.keeps.specs.Stands.{Part, number_of, needed, across_of, down_of}
use Rattle.look.specs.Calls.{lent_of, lent_by, Reading, reading, Kept, physical_text, Request, request, group_in, asks_by, writing}
use Rattle.demands.specs.Rules.{Fits, Keeps}
use Rattle.demands.specs.Standing.{PartHolds, part_lower, part_upper}
use Rattle.demands.specs.Nearest.{InLimits, OutsideLimits}
use Rattle.demands.specs.Editions.{setting_of, AsksHalf}
use Rattle.demands.specs.Readings.{ReadsAs}
use Rattle.demands.specs.Writings.{Stored}
use Rattle.demands.specs.Powers.{MadeWhole}
use Rattle.demands.specs.Types.{data_types, Typed}
use Rattle.demands.proofs.Accepting as accepting
use Rattle.demands.proofs.Standing as standing
use Rattle.demands.proofs.Readings as readings
use Rattle.demands.proofs.Writings as writings
use Rattle.demands.proofs.Meaning as meaning
use Rattle.demands.proofs.Limiting as limiting
use Rattle.demands.proofs.Editions as editions
use Rattle.demands.proofs.Loaded as holding
use Rattle.demands.proofs.Powers as powers
use Rattle.demands.proofs.Types as types
use Rattle.demands.proofs.Numbers as numbers

module _ (x image : List ℕ) (setting : Setting) (tables work : List ℕ) where
  -- "A description with its image is accepted exactly if it keeps the written rules."
  pub accepted-exactly : ((loaded x image setting tables work).answer ≡ text.given tt) ↔ (Fits x image setting tables work × Keeps x image setting.base)
  accepted-exactly = accepting.accepted-exactly x image setting tables work

  module _ (f : Fits x image setting tables work) (k : Keeps x image setting.base) where
    -- the tables that the description's records make, and the lent work at zero
    pub leaves : loaded x image setting tables work ≡ record { answer = text.given tt; tables = accepting.tables_for x image setting tables work k.records; work = replicate (length work) 0 }
    leaves = accepting.accepted-leaves x image setting tables work f k

    -- "The load takes the edition, 1 or 2, as an argument and the tables keep it." (document 02, wish 7)
    pub edition-kept : edition (tables_in (loaded x image setting tables work).tables) ≡ setting.edition
    edition-kept = holding.edition-of x image setting tables work f k

    -- part p of object i, where the object has it
    module _ (i : ℕ) (l : i < count k.records object) (p : Part) (e : needed (need_of image setting.base x (view k.records) i) p ≡ true) where
      -- "Every element then stands at the address and width its layout gives, inside the image"
      pub stands : PartHolds x (view k.records) i (tables_in (loaded x image setting tables work).tables) (group_of i (number_of p)) setting.base (length image) (layout_of x (view k.records) i)
          (k.objects i l).places p
      stands = standing.part_held x image setting tables work f k i l p e

      -- "its physical value is the exact fraction or text, or none": reading element j, in the load's image of bytes or in one as long that writes have left
      pub reads : (now : List ℕ) → length now ≡ length image → ((j : ℕ) → get_or now j 0 < 256) → (j : ℕ) → j < across_of (k.objects i l).places p * down_of (k.objects i l).places p
          → (r : Reading) × (reading (loaded x image setting tables work).tables now (lent_of (length x) (length now) setting.base) i (number_of p) j ≡ given r)
          × ReadsAs x (view k.records) i now setting.base (layout_of x (view k.records) i) (k.objects i l).places p j r
      reads now e' b j h = readings.element-read x image setting tables work f k now e' b i l p e j h

      -- "A physical write stores the whole number nearest to what the conversion asks, by the edition's rule on halves, or is refused.": to element j, in any image of bytes
      pub stores : (c : Kept) → ((j : ℕ) → get_or c.image j 0 < 256) → (j : ℕ) (s : List ℕ)
          → (writing (loaded x image setting tables work).tables (length x) setting.base c (request i (number_of p) j (physical_text s))).answer ≡ given tt
          → Stored setting.edition x (view k.records) i (layout_of x (view k.records) i) p j s (loaded x image setting tables work).tables (length x) setting.base
          (writing (loaded x image setting tables work).tables (length x) setting.base c (request i (number_of p) j (physical_text s))).left
      stores = writings.physical-stored x image setting tables work f k i l p e

      -- "A limit is for what gets stored. .. Test the value that the stored number means, as its exact fraction, as well as the asked one." (document 02, wish 2):
      -- after an accepted physical write the call that reads the element answers a number within the element's limits, ends included
      pub stored-within : (c : Kept) → ((j : ℕ) → get_or c.image j 0 < 256) → (j : ℕ) (s : List ℕ)
          → (writing (loaded x image setting tables work).tables (length x) setting.base c (request i (number_of p) j (physical_text s))).answer ≡ given tt
          → (r : Reading)
          × (reading (loaded x image setting tables work).tables (writing (loaded x image setting tables work).tables (length x) setting.base c (request i (number_of p) j (physical_text s))).left.image
          (lent_by (length x) setting.base (writing (loaded x image setting tables work).tables (length x) setting.base c (request i (number_of p) j (physical_text s))).left) i (number_of p) j ≡ given r)
          × InLimits (part_lower x (view k.records) i p) (part_upper x (view k.records) i p) r.value
      stored-within c b j s h = let w = stores c b j s h in (w.answer, w.is_read, w.is_limited)

-- "16 is given first for the asked value in its old place, and for the stored one after 17 and 18." (document 02, wish 2): with any tables, a physical write that is
-- 16 asks for a value outside the element's limits, or the rounded number means no number within them
pub sixteen : (t : List ℕ) (n base : ℕ) (c : Kept) (i p j : ℕ) (s : List ℕ) → (writing t n base c (request i p j (physical_text s))).answer ≡ refused 16
    → OutsideLimits (edition (tables_in t)) (limit (tables_in t) (group_of i p) lower_cell) (limit (tables_in t) (group_of i p) upper_cell) (asks_by (tables_in t) (group_of i p)) (shape_of (kind (tables_in t) (group_of i p)))
    (mask (tables_in t) (group_of i p)) s
sixteen = limiting.sixteen

-- "Show once, over both editions, that the stored number is within half a step and that nothing but exact halves differs between them." (document 02, wish 7): the
-- first is `stores` (Nearest, `near`), over the edition that was asked for, and the second is this. A description that is accepted by one edition is loaded by both; a
-- write that asks for no exact half then has the same answer, image and list, whatever image and list it meets. (Of the rounding alone, for any two rules on halves:
-- convert, `within-half` and `only-halves-differ`.)
pub same-but-halves : (x image : List ℕ) (base : ℕ) (tables work : List ℕ) → (loaded x image (setting_of base edition_one) tables work).answer ≡ text.given tt → (c : Kept) (q : Request)
    → (AsksHalf (tables_in (loaded x image (setting_of base edition_one) tables work).tables) (group_in q) q.wanted → ⊥)
    → writing (loaded x image (setting_of base edition_one) tables work).tables (length x) base c q ≡ writing (loaded x image (setting_of base edition_two) tables work).tables (length x) base c q
same-but-halves x image base tables work ok =
    let e = (accepting.accepted-exactly x image (setting_of base edition_one) tables work).0 ok in
    editions.writes-alike x image base tables work e.0 e.1

-- "Read an optional E or e, an optional sign and one or two digits. The meaning is the exact decimal. It is accepted if, after moving the point and dropping
-- needless zeros, it has at most 10 digits and at most 6 after the point; otherwise still 2." (document 02, wish 1): a run of bytes that has an E or e is read as
-- the decimal d exactly if it has that form, d is exactly what it writes, over the smallest power of ten, and d has so many digits (number, specs/Exact)
pub exponent-exactly : (s : List ℕ) (i : ℕ) → is_e (get_or s i 0) ≡ true → (d : Scaled) → (decimal_of s ≡ given d) ↔ (ExponentForm s × Exact s d × Form d)
exponent-exactly = forms.exponent-exactly

-- "Numbers without an exponent read as before.": a run in which no byte is an E or e (past its end it has 0) reads as document 01 says
pub as_before : (s : List ℕ) → ((i : ℕ) → is_e (get_or s i 0) ≡ false) → decimal_of s ≡ plain_of s
as_before = exponents.plain-as-before

-- "2 is narrower": what was read before is read so still
pub narrower : (s : List ℕ) (d : Scaled) → plain_of s ≡ given d → decimal_of s ≡ given d
narrower s d q = sym (exponents.refused-narrower s d (sym q))

-- "The meaning is the exact decimal.": each decimal of an accepted description, the token m up to the place e, is exactly what its bytes write. (So is the value
-- that a write asks for: `stores`.)
pub decimals-exact : (x : List ℕ) (k e : ℕ) (m : Scaled) (d : Decimal x k m e) → Exact (take (e - d.0) (drop d.0 x)) m
decimals-exact = numbers.token-exact

-- a write that asks for the same number in another form, as `1200` and `1.2E3`, is the same write: its answer, the image and the list
pub asked-alike : (t : List ℕ) (n base : ℕ) (c : Kept) (i p j : ℕ) (s r : List ℕ) (d e : Scaled) → decimal_of s ≡ given d → decimal_of r ≡ given e → SameNumber s r
    → writing t n base c (request i p j (physical_text s)) ≡ writing t n base c (request i p j (physical_text r))
asked-alike = numbers.asked-alike

-- "Divisor 0: no value.", and a value for any other
pub none-exactly : (k : Coefficients) (z : ℤ) → (fraction k z ≡ none) ↔ (k.b -ℤ k.e *ℤ z ≡ pos 0)
none-exactly = meaning.none-exactly

-- "The four others are made whole at the smallest common power of ten."
pub whole-at-least-power : (b c e f : Scaled) (k : Coefficients) → rat_func b c e f ≡ given k → MadeWhole b c e f k
whole-at-least-power = powers.rat-func-whole

-- "LINEAR, PHYS = a·INT + b, has b, c, e, f of 10^t, −B, 0, A, where A and B are a and b times 10^t."
pub linear : (a b : Scaled) (k : Coefficients) → linear_of a b ≡ given k → k ≡ linear_at (max a.tens b.tens) a b
linear = powers.linear-is

-- "Data types: UBYTE, SBYTE, UWORD, SWORD, ULONG, SLONG", "bytes 1, words 2, longs 4, signed in two's complement": by the reader's tables each word has the size
-- and sign that are listed, and a word that is taken for a data type is one of them
pub six-types : types.given_to data_types ≡ data_types
six-types = types.six-types

pub type-word : (w : List ℕ) (c : ℕ) → class_of w ≡ taken_choice c → UBYTE ≤ c → c ≤ SLONG → Typed w (shape_of c)
type-word = types.type-word
