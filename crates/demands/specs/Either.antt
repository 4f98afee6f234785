-- Two people's writes. Document 02, wish 13: "Two people send writes to one image, and we merge them as they come. Show that for two writes to elements whose masked
-- bits don't meet, also with both masks in one byte, either order gives the same answers, the same image and the same list, refused ones included."
use Rattle.std.specs.Prelude.{ℕ, ◌≡◌, List, [], ◌∷◌, cond}
use Rattle.std.specs.Int.Bits.{bit_and}
use Rattle.bits.specs.Bits.{bits_in}
use Rattle.tables.specs.Form.{Tables, first, mask}
use Rattle.tables.specs.Group.{group_of, bytes, place_of}
use Rattle.look.specs.Calls.{is_element, Kept, Request, writing}

-- the bits that an element, by object number, part and index, has in byte b of the image: "its mask's, where they stand by its byte order; without a mask all bits of its
-- bytes. An element that doesn't exist (14) has none." (rule 9.19; bits, specs/Bits)
unfoldable pub element_bits : Tables → ℕ → ℕ → ℕ → ℕ → ℕ
element_bits T o p i b =
    cond (is_element T o p i)
    (bits_in (first T (group_of o p)) (place_of T (group_of o p) i) (bytes T (group_of o p)) (mask T (group_of o p)) b)
    0

-- those of the element that a request is for
abbrev pub bits_for : Tables → Request → ℕ → ℕ
bits_for T q b = element_bits T q.object q.part q.index b

-- "masked bits don't meet": in no byte of the image is there a bit that both elements have
abbrev pub Apart : Tables → Request → Request → Type 0
Apart T q r = (b : ℕ) → bit_and (bits_for T q b) (bits_for T r b) ≡ 0

-- tables t, n bytes of description, a base address; k is what is kept before the two writes
pub record EitherOrder (t : List ℕ) (n base : ℕ) (k : Kept) (q r : Request) : Type 0 where
  -- "the same answers": each write is answered after the other as before it
  pub answer_one : (writing t n base (writing t n base k r).left q).answer ≡ (writing t n base k q).answer
  pub answer_two : (writing t n base (writing t n base k q).left r).answer ≡ (writing t n base k r).answer
  -- "the same image and the same list", in every column
  pub left : (writing t n base (writing t n base k q).left r).left ≡ (writing t n base (writing t n base k r).left q).left

-- "we merge them as they come": the requests of two people in one row, those of each in the order in which they were sent
pub data Merged : List Request → List Request → List Request → Type 0 where
  none : Merged [] [] []
  from_one : (q : Request) {qs rs ms : List Request} → Merged qs rs ms → Merged (q ∷ qs) rs (q ∷ ms)
  from_two : (r : Request) {qs rs ms : List Request} → Merged qs rs ms → Merged qs (r ∷ rs) (r ∷ ms)

-- P holds of every request of a row
abbrev pub Every : (Request → Type 0) → List Request → Type 0
Every P [] = Unit {0}
Every P (q ∷ qs) = P q × Every P qs

-- no bit of an element that the one writes is a bit of an element that the other writes
abbrev pub AllApart : Tables → List Request → List Request → Type 0
AllApart T qs rs = Every (λ (r : Request). Every (λ (q : Request). Apart T q r) qs) rs
