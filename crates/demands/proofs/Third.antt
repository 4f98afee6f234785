-- THE THIRD DEMAND, to be read beside document 01: "After any sequence of writes, refused ones included, the kept value list equals one made anew. An accepted
-- write changes at most the masked bits of the named element, and no list line that shares no byte with it." (With document 02's wish 2 more writes are refused: those whose
-- stored number would mean a value outside the limits, or none. What is said of refused writes is said of them.)
--     kept-anew          from an accepted load on, after any requests (specs/Anew)
--     as-many-lines      how many lines its list has
--     framed             what a write leaves alone (specs/Frames)
--     by-length-alone    no byte of the image decides a write's answer
-- and document 02's wish 13: "Two people send writes to one image, and we merge them as they come." (specs/Either)
--     either_order       two writes whose elements' bits don't meet: the same answers, image and list in either order
--     merged-order       every merge of two rows of such writes leaves the same image and list
--     answered-anywhere  and each write is answered as at the start
--     bits-alone, bits-exactly, bits-described     why these are the element's bits
use Prim.Native.Nat.{ℕ, ◌-◌, ◌*◌, ◌≤◌, ◌<◌}
use mathlib.Core.Path.{◌≡◌}
use mathlib.Core.List.{List}
use mathlib.Core.Bool.{true}
use mathlib.Core.Logic.{◌↔◌}
use lib.Bits.{bit_and}
use lib.IntN.{ℤ}
use lib.ListN.{length, get_or}
use Rattle.text.specs.Answer as text
use Rattle.number.specs.Answer.{given}
use Rattle.cell.specs.Kind.{shape_of}
use Rattle.bits.specs.Bits.{bits_in}
use Rattle.records.specs.Records.{count}
use Rattle.rows.specs.Sections.{object}
use Rattle.grammar.specs.Move.{view}
use Rattle.objects.specs.Object.{layout_of, first_of, need_of}
use Rattle.tables.specs.declared.setting.Setting.{Setting}
use Rattle.tables.specs.Form.{tables_in, total}
use Rattle.load.specs.Load.{loaded}
use Rattle.keeps.specs.Accepted.{all_elements}
use Rattle.keeps.specs.Stands.{Part, number_of, needed, type_of, across_of, down_of}
use Rattle.look.specs.Calls.{lent_of, Reading, reading, Kept, kept, room, Request, group_in, writing, with_image}
use Rattle.demands.specs.Rules.{Fits, Keeps}
use Rattle.demands.specs.Standing.{part_mask, element_at}
use Rattle.demands.specs.Runs.{running}
use Rattle.demands.specs.Anew.{Anew}
use Rattle.demands.specs.Frames.{Frame}
use Rattle.demands.specs.Either.{element_bits, bits_for, Apart, EitherOrder, Merged, AllApart}
use Rattle.demands.proofs.Keeping as keeping
use Rattle.demands.proofs.Frames as frames
use Rattle.demands.proofs.Runs as runs
use Rattle.demands.proofs.Either as either
use Rattle.demands.proofs.Bits as bits

-- from an accepted load on
module _ (x image : List ℕ) (setting : Setting) (tables work : List ℕ) (ok : (loaded x image setting tables work).answer ≡ text.given tt) where
  -- the list has a line for each element of all objects
  pub as-many-lines : (k : Keeps x image setting.base) → total (tables_in (loaded x image setting tables work).tables) ≡ all_elements image setting.base x k.records
  as-many-lines = keeping.all-elements x image setting tables work ok

  -- with so many lines in each of the four columns making the list is accepted, and after any requests image and list are those of a list made anew
  pub kept-anew : (raw : List ℤ) (state : List ℕ) (first second : List ℤ) → total (tables_in (loaded x image setting tables work).tables) ≤ room (kept image raw state first second)
      → Anew (loaded x image setting tables work).tables (length x) setting.base (kept image raw state first second)
  kept-anew = keeping.kept-anew x image setting tables work ok

-- what a write leaves alone, in an image of bytes
pub framed : (t : List ℕ) (n base : ℕ) (k : Kept) (q : Request) → ((j : ℕ) → get_or k.image j 0 < 256) → Frame t (group_in q) q.index k (writing t n base k q).left
framed = frames.write-framed

-- a write's answer depends on no byte of the image, only on its length
pub by-length-alone : (t : List ℕ) (n base : ℕ) (k : Kept) (image : List ℕ) (q : Request) → length image ≡ length k.image → (writing t n base (with_image image k) q).answer ≡ (writing t n base k q).answer
by-length-alone = runs.write-depends-on-length-only

-- ---- document 02, wish 13. With any tables, lengths and base address, in an image of bytes, whatever the list held; refused writes included

-- "for two writes to elements whose masked bits don't meet, also with both masks in one byte, either order gives the same answers, the same image and the same list"
pub either_order : (t : List ℕ) (n base : ℕ) (k : Kept) → ((j : ℕ) → get_or k.image j 0 < 256) → (q r : Request) → Apart (tables_in t) q r → EitherOrder t n base k q r
either_order = either.either_order

-- "Two people send writes to one image, and we merge them as they come.": the one's writes qs and the other's rs, merged in two ways, leave the same image and list
pub merged-order : (t : List ℕ) (n base : ℕ) {qs rs ms os : List Request} → AllApart (tables_in t) qs rs → Merged qs rs ms → Merged qs rs os
    → (k : Kept) → ((j : ℕ) → get_or k.image j 0 < 256) → running t n base k ms ≡ running t n base k os
merged-order = either.merged-order

-- and whatever writes went before it, a write is answered as at the start
pub answered-anywhere : (t : List ℕ) (n base : ℕ) (k : Kept) (before : List Request) (r : Request) → (writing t n base (running t n base k before) r).answer ≡ (writing t n base k r).answer
answered-anywhere = either.answered-anywhere

-- the bits of a write's element are the ones that it may change, byte by byte of the image
pub bits-alone : (t : List ℕ) (n base : ℕ) (k : Kept) → ((j : ℕ) → get_or k.image j 0 < 256) → (q : Request) (b : ℕ)
    → bit_and (get_or (writing t n base k q).left.image b 0) (255 - bits_for (tables_in t) q b) ≡ bit_and (get_or k.image b 0) (255 - bits_for (tables_in t) q b)
bits-alone = either.own-bits-alone

-- and the ones that it is read by: from two images an element reads the same exactly if each byte has the same of its bits in both
pub bits-exactly : (t : List ℕ) (n base : ℕ) (one other : List ℕ) → ((j : ℕ) → get_or one j 0 < 256) → ((j : ℕ) → get_or other j 0 < 256) → (o p i : ℕ) (r s : Reading)
    → reading t one (lent_of n (length one) base) o p i ≡ given r → reading t other (lent_of n (length other) base) o p i ≡ given s
    → (r ≡ s) ↔ ((b : ℕ) → bit_and (get_or one b 0) (element_bits (tables_in t) o p i b) ≡ bit_and (get_or other b 0) (element_bits (tables_in t) o p i b))
bits-exactly = bits.bits-exactly

-- after an accepted load they stand at the element's address, by the object's byte order and mask
pub bits-described : (x image : List ℕ) (setting : Setting) (tables work : List ℕ) (f : Fits x image setting tables work) (k : Keeps x image setting.base) (i : ℕ) (l : i < count k.records object)
    (p : Part) → needed (need_of image setting.base x (view k.records) i) p ≡ true → (j : ℕ) → j < across_of (k.objects i l).places p * down_of (k.objects i l).places p → (b : ℕ)
    → element_bits (tables_in (loaded x image setting tables work).tables) i (number_of p) j b
    ≡ bits_in (first_of (view k.records) i) (element_at x (view k.records) i (layout_of x (view k.records) i) (k.objects i l).places p j - setting.base)
    (shape_of (type_of (layout_of x (view k.records) i) p)).bytes (part_mask x (view k.records) i p) b
bits-described = bits.bits-described
