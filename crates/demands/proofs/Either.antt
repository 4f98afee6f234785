-- TWO PEOPLE'S WRITES: "for two writes to elements whose masked bits don't meet, also with both masks in one byte, either order gives the same answers, the same
-- image and the same list, refused ones included", whatever the list held before.
--     either_order, merged-order     two writes, and every merge of two rows of writes
--     answered-anywhere     a request is answered alike after whatever other requests, apart or not
--     own-bits-alone     a write alters no bit that its element has not
-- Assumes nothing.
use mathlib.Core.Path.{◌≡◌, refl, sym, ap, ap₂, ◌∙◌, subst}
use mathlib.Core.List.{List, [], ◌∷◌, ◌++◌}
use mathlib.Core.Bool.{true}
use Prim.Native.Nat.{ℕ, ◌-◌, ◌<◌}
use native.Mathlib.Omega.{arith}
use borrow.Author.Tests.{leb-true}
use lib.Bits.{bit_and}
use lib.Dec.{leb}
use lib.IntN.{ℤ}
use lib.ListN.{length, get_or}
use Rattle.number.specs.Answer.{Answer, given, refused}
use Rattle.cell.specs.Kind.{shape_of}
use Rattle.cell.specs.Raw.{written}
use Rattle.cell.proofs.Shapes.{bytes_le}
use Rattle.bits.specs.Bits.{bits_in}
use Rattle.bits.proofs.Images.{Good, written-rest, written-bytes, written-swap}
use Rattle.tables.specs.Form.{tables_in, total, kind, first, mask}
use Rattle.tables.specs.Group.{bytes, place_of}
use Rattle.tables.proofs.Reading.{element-inside, total-is}
use Rattle.look.specs.Calls.{lent_of, lent_by, is_element, Kept, room, has_room, After, afterwards, Request, group_in, judged_request, stored, written_to, writing}
use Rattle.list.proofs.Writes.{mask-inside, Accepted, accepted, wanted-fits, by_answer, length-stored, image-after, room-written, written-to-swap}
use Rattle.demands.specs.Runs.{running}
use Rattle.demands.specs.Either.{element_bits, bits_for, Apart, EitherOrder, Merged, none, from_one, from_two, Every, AllApart}

-- what is lent: the tables t, n bytes of description, the base address; an image and a list are what is kept
module _ (t : List ℕ) (n base : ℕ) where
  -- ---- answers
  abbrev judged_of : Kept → Request → Answer ℤ
  judged_of k q = judged_request t (lent_by n base k) (has_room t k) q

  same-lengths : (k c : Kept) (r : Request) → length c.image ≡ length k.image → room c ≡ room k → judged_of c r ≡ judged_of k r
  same-lengths k c r e f =
      ap (λ (m : ℕ). judged_request t (lent_of n m base) (has_room t c) r) e
      ∙ ap (λ (m : ℕ). judged_request t (lent_by n base k) (leb (total (tables_in t)) m) r) f

  -- no write decides what is judged of another
  judged-after : (k : Kept) (q r : Request) → judged_of (writing t n base k q).left r ≡ judged_of k r
  judged-after k q r =
      by_answer t n base k q (λ (a : After). judged_of a.left r ≡ judged_of k r) (λ c e. refl)
      (λ z e. let a = accepted t (lent_by n base k) (has_room t k) q z e in
      let l = leb-true (total (tables_in t)) (room k) a.room_enough in
      same-lengths k (written_to t (group_in q) q.index k z) r
      (ap length (image-after t (group_in q) q.index k z) ∙ length-stored t (group_in q) q.index k.image z)
      (room-written t (group_in q) q.index k z (omega (arith, total-is n (length k.image) t a.rule))))

  abbrev after : Answer ℤ → Request → Kept → After
  after a q c = afterwards a c (written_to t (group_in q) q.index c)

  answers : (a : Answer ℤ) (q : Request) (c d : Kept) → (after a q c).answer ≡ (after a q d).answer
  answers (given z) q c d = refl
  answers (refused m) q c d = refl

  answered-after : (k : Kept) (q r : Request) → (writing t n base (writing t n base k q).left r).answer ≡ (writing t n base k r).answer
  unfolding writing
  answered-after k q r = ap (λ (a : Answer ℤ). (after a r (writing t n base k q).left).answer) (judged-after k q r) ∙ answers (judged_of k r) r (writing t n base k q).left k

  pub answered-anywhere : (k : Kept) (qs : List Request) (r : Request) → (writing t n base (running t n base k qs) r).answer ≡ (writing t n base k r).answer
  answered-anywhere k [] r = refl
  answered-anywhere k (q ∷ qs) r = answered-anywhere (writing t n base k q).left qs r ∙ answered-after k q r

  -- ---- the image
  good : (k : Kept) (q : Request) (z : ℤ) → Accepted t (lent_by n base k) (has_room t k) q z
      → Good (place_of (tables_in t) (group_in q) q.index) (shape_of (kind (tables_in t) (group_in q))) (mask (tables_in t) (group_in q)) z (length k.image)
  good k q z a = record {
    small = bytes_le (kind (tables_in t) (group_in q));
    within = mask-inside n (length k.image) t a.rule (group_in q) a.group_below;
    fits = wanted-fits (tables_in t) (group_in q) q.wanted z a.wants;
    inside = element-inside n (length k.image) t a.rule (group_in q) q.index a.group_below a.index_below;
  }

  -- the bits of an element that exists
  bits-of : (q : Request) → is_element (tables_in t) q.object q.part q.index ≡ true → (j : ℕ)
      → bits_for (tables_in t) q j ≡ bits_in (first (tables_in t) (group_in q)) (place_of (tables_in t) (group_in q) q.index) (bytes (tables_in t) (group_in q)) (mask (tables_in t) (group_in q)) j
  unfolding element_bits
  bits-of q e j = rw e

  module _ (k : Kept) (b : (j : ℕ) → get_or k.image j 0 < 256) (q : Request) where
    -- an image of bytes stays one
    write_bytes : (j : ℕ) → get_or (writing t n base k q).left.image j 0 < 256
    unfolding stored
    write_bytes j =
        by_answer t n base k q (λ (a : After). get_or a.left.image j 0 < 256) (λ c e. b j)
        (λ z e. let T = tables_in t in
        let g = group_in q in
        subst (λ (y : List ℕ). get_or y j 0 < 256) (sym (image-after t g q.index k z))
        (written-bytes (first T g) (place_of T g q.index) (shape_of (kind T g)) (mask T g) z k.image (good k q z (accepted t (lent_by n base k) (has_room t k) q z e)) b j))

    pub own-bits-alone : (j : ℕ) → bit_and (get_or (writing t n base k q).left.image j 0) (255 - bits_for (tables_in t) q j) ≡ bit_and (get_or k.image j 0) (255 - bits_for (tables_in t) q j)
    unfolding stored
    own-bits-alone j =
        by_answer t n base k q (λ (a : After). bit_and (get_or a.left.image j 0) (255 - bits_for (tables_in t) q j) ≡ bit_and (get_or k.image j 0) (255 - bits_for (tables_in t) q j)) (λ c e. refl)
        (λ z e. let a = accepted t (lent_by n base k) (has_room t k) q z e in
        let T = tables_in t in
        let g = group_in q in
        ap (λ (y : List ℕ). bit_and (get_or y j 0) (255 - bits_for (tables_in t) q j)) (image-after t g q.index k z)
        ∙ subst (λ (x : ℕ). bit_and (get_or (written (first T g) (place_of T g q.index) (shape_of (kind T g)) (mask T g) z k.image) j 0) (255 - x) ≡ bit_and (get_or k.image j 0) (255 - x))
        (sym (bits-of q a.element j)) (written-rest (first T g) (place_of T g q.index) (shape_of (kind T g)) (mask T g) z k.image (good k q z a) b j))

  -- ---- two writes
  module _ (k : Kept) (b : (j : ℕ) → get_or k.image j 0 < 256) (q r : Request) (apart : Apart (tables_in t) q r) where
    stored-swap : (z y : ℤ) → Accepted t (lent_by n base k) (has_room t k) q z → Accepted t (lent_by n base k) (has_room t k) r y
        → stored t (group_in r) r.index (stored t (group_in q) q.index k.image z) y ≡ stored t (group_in q) q.index (stored t (group_in r) r.index k.image y) z
    unfolding stored
    stored-swap z y a c =
        let T = tables_in t in
        let g = group_in q in
        let h = group_in r in
        written-swap k.image b
        (first T g) (place_of T g q.index) (shape_of (kind T g)) (mask T g) z (good k q z a)
        (first T h) (place_of T h r.index) (shape_of (kind T h)) (mask T h) y (good k r y c)
        (λ j. ap₂ bit_and (sym (bits-of q a.element j)) (sym (bits-of r c.element j)) ∙ apart j)

    lists : (a c : Answer ℤ) → judged_of k q ≡ a → judged_of k r ≡ c → (after c r (after a q k).left).left ≡ (after a q (after c r k).left).left
    lists (given z) (given y) e f =
        written-to-swap t (group_in q) q.index (group_in r) r.index k z y
        (stored-swap z y (accepted t (lent_by n base k) (has_room t k) q z e) (accepted t (lent_by n base k) (has_room t k) r y f))
    lists (given z) (refused m) e f = refl
    lists (refused m) (given y) e f = refl
    lists (refused m) (refused m') e f = refl

    both : (writing t n base (writing t n base k q).left r).left ≡ (writing t n base (writing t n base k r).left q).left
    unfolding writing
    both =
        ap (λ (a : Answer ℤ). (after a r (writing t n base k q).left).left) (judged-after k q r)
        ∙ lists (judged_of k q) (judged_of k r) refl refl
        ∙ sym (ap (λ (a : Answer ℤ). (after a q (writing t n base k r).left).left) (judged-after k r q))

    pub either_order : EitherOrder t n base k q r
    either_order = record {
      answer_one = answered-after k r q;
      answer_two = answered-after k q r;
      left = both;
    }

  -- ---- two rows of writes
  abbrev Bytes : Kept → Type 0
  Bytes k = (j : ℕ) → get_or k.image j 0 < 256

  -- a request that is apart from a row of others may be carried out before them or after them
  moved : (k : Kept) → Bytes k → (qs : List Request) (r : Request) (rs : List Request) → Every (λ (q : Request). Apart (tables_in t) q r) qs
      → running t n base (writing t n base k r).left (qs ++ rs) ≡ running t n base k (qs ++ r ∷ rs)
  moved k b [] r rs a = refl
  moved k b (q ∷ qs) r rs a =
      ap (λ (c : Kept). running t n base c (qs ++ rs)) (sym (either_order k b q r a.0).left)
      ∙ moved (writing t n base k q).left (write_bytes k b q) qs r rs a.1

  tail : (q : Request) (qs rs : List Request) → AllApart (tables_in t) (q ∷ qs) rs → AllApart (tables_in t) qs rs
  tail q qs [] a = tt
  tail q qs (r ∷ rs) a = (a.0.1, tail q qs rs a.1)

  -- every merge leaves what one row after the other leaves
  one_by_one : {qs rs ms : List Request} → Merged qs rs ms → AllApart (tables_in t) qs rs → (k : Kept) → Bytes k → running t n base k ms ≡ running t n base k (qs ++ rs)
  one_by_one none a k b = refl
  one_by_one (from_one q {qs} {rs} m) a k b = one_by_one m (tail q qs rs a) (writing t n base k q).left (write_bytes k b q)
  one_by_one (from_two r {qs} {rs} m) a k b = one_by_one m a.1 (writing t n base k r).left (write_bytes k b r) ∙ moved k b qs r rs a.0

  pub merged-order : {qs rs ms os : List Request} → AllApart (tables_in t) qs rs → Merged qs rs ms → Merged qs rs os → (k : Kept) → Bytes k → running t n base k ms ≡ running t n base k os
  merged-order a m o k b = one_by_one m a k b ∙ sym (one_by_one o a k b)
