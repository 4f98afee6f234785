-- WHAT A C CALLER READS OUT OF A NUMBER IS THE ANSWER: number % 64 and number / 64 of a load, the number itself or its size of the other calls.
--     load-number-back                                    for every refusal below 64 at a place below 2^32
--     find-number-back, read-number-back, make-number-back, raw-number-back, physical-number-back, listing-number-back     for every input
--     find-refuses                                        "or -20, -22"
-- Assumes nothing.
use Prim.Native.Nat.{ℕ, zero, suc, ◌+◌, ◌*◌, ◌/◌, ◌%◌}
use mathlib.Core.Path.{◌≡◌, refl}
use mathlib.Core.List.{List, [], ◌∷◌}
use mathlib.Core.Bool.{Bool, true, false, ◌&&◌, false≢true}
use mathlib.Core.Logic.{◌⊎◌, inl, inr, ⊎_elim}
use native.Mathlib.Omega.{arith}
use borrow.Author.Tests.{ne_eqb}
use lib.Dec.{leb}
use lib.Ieee.{Float}
use lib.IntN.{ℤ}
use lib.ListN.{length}
use Rattle.text.specs.Answer as placed
use Rattle.number.specs.Answer.{Answer, given, refused}
use Rattle.look.specs.Calls.{Lent, lent_by, unless, checked, searched, Reading, reading, Kept, has_room, making, raw_number, physical_text, Request, request, writing}
use Rattle.look.proofs.Numbers.{OneOf, RefusedBy, given-numbers, unless-numbers, checked-numbers, searched-numbers, reading-numbers, making-numbers, write_order, writing-numbers}
use Rattle.listing.specs.Listing.{columns_of, printed, listed_by, if_fits, listing}
use Rattle.numbers.specs.Numbers.{load_number, find_number, read_by, read_told, call_number, listing_number}
use Rattle.numbers.specs.Back.{load_back, Tellable, find_back, done_of, call_back, listing_back}

-- ---- a load
pub load-number-back : (a : placed.Answer (Unit {0})) → Tellable a → load_back (load_number a) ≡ a
load-number-back (placed.given a) h = refl
load-number-back (placed.refused n p) h =
    let l = h.0 in
    let m = h.1 in
    let r = h.2 in
    let e : p % 4294967296 ≡ p = omega arith in
    let z : (p * 64 + n ≡ 0 → ⊥) = λ s. omega arith in
    let d : (p * 64 + n) % 64 ≡ n = omega arith in
    let q : (p * 64 + n) / 64 ≡ p = omega arith in
    rw (e, ne_eqb (p * 64 + n) 0 z, d, q)

-- ---- a refusal's number is never 0
pub data Numbered {A : Type 0} : Answer A → Type 0 where
  was_given : (a : A) → Numbered (given a)
  was_refused : (n : ℕ) → Numbered (refused (suc n))

abbrev zeroless : List ℕ → Bool
zeroless [] = true
zeroless (zero ∷ ms) = false
zeroless (suc m ∷ ms) = zeroless ms

not-zero : (ms : List ℕ) → zeroless ms ≡ true → OneOf ms 0 → ⊥
not-zero [] z h = h
not-zero (zero ∷ ms) z h = false≢true z
not-zero (suc m ∷ ms) z (inl e) = omega arith
not-zero (suc m ∷ ms) z (inr h) = not-zero ms z h

numbered : {A : Type 0} (ms : List ℕ) → zeroless ms ≡ true → (a : Answer A) → RefusedBy ms a → Numbered a
numbered ms z (given a) h = was_given a
numbered ms z (refused zero) h = absurd (not-zero ms z (h 0 refl))
numbered ms z (refused (suc n)) h = was_refused n

-- ---- a search
module _ (x t : List ℕ) (l : Lent) (w : List ℕ) where
  find-back : (a : Answer ℕ) → RefusedBy (20 ∷ 22 ∷ []) a → find_back (find_number a) ≡ a
  find-back (given zero) h = refl
  find-back (given (suc v)) h = refl
  find-back (refused n) h = go (h n refl)
    where
      go : OneOf (20 ∷ 22 ∷ []) n → find_back (find_number (refused n)) ≡ refused n
      go (inl e) = rw e
      go (inr (inl e)) = rw e
      go (inr (inr h)) = absurd h

  pub find-number-back : find_back (find_number (searched x t l w)) ≡ searched x t l w
  find-number-back = find-back (searched x t l w) (searched-numbers x t l w)

  pub find-refuses : (n : ℕ) → searched x t l w ≡ refused n → (n ≡ 20) ⊎ (n ≡ 22)
  find-refuses n e = ⊎_elim inl (⊎_elim inr (λ h. absurd h)) (searched-numbers x t l w n e)

-- ---- a read
read_back : (a : Answer Reading) (out : List ℤ) (shown : List Float) → Numbered a → call_back (read_by a out shown).number ≡ done_of a
read_back (given r) out shown h = refl
read_back (refused n) out shown (was_refused m) = refl

pub read-number-back : (t image : List ℕ) (l : Lent) (o p i : ℕ) (out : List ℤ) (shown : List Float)
    → call_back (read_told (reading t image l o p i) out shown).number ≡ done_of (unless (leb 5 (length out) && leb 1 (length shown)) 20 (reading t image l o p i))
unfolding read_told
read-number-back t image l o p i out shown =
    let a = unless (leb 5 (length out) && leb 1 (length shown)) 20 (reading t image l o p i) in
    read_back a out shown
    (numbered (20 ∷ 20 ∷ 22 ∷ 14 ∷ []) refl a
    (unless-numbers (leb 5 (length out) && leb 1 (length shown)) 20 (20 ∷ 22 ∷ 14 ∷ []) (reading t image l o p i) (reading-numbers t image l o p i)))

-- ---- a call on the list
call_back_lem : (a : Answer (Unit {0})) → Numbered a → call_back (call_number a) ≡ a
call_back_lem (given a) h = refl
call_back_lem (refused n) (was_refused m) = refl

module _ (t : List ℕ) (n base : ℕ) (k : Kept) where
  pub make-number-back : call_back (call_number (making t n base k).answer) ≡ (making t n base k).answer
  make-number-back = call_back_lem (making t n base k).answer (numbered (20 ∷ 22 ∷ []) refl (making t n base k).answer (making-numbers t n base k))

  write-number-back : (q : Request) → call_back (call_number (writing t n base k q).answer) ≡ (writing t n base k q).answer
  write-number-back q = call_back_lem (writing t n base k q).answer (numbered write_order refl (writing t n base k q).answer (writing-numbers t n base k q))

  module _ (o p i : ℕ) where
    pub raw-number-back : (z : ℤ) → call_back (call_number (writing t n base k (request o p i (raw_number z))).answer) ≡ (writing t n base k (request o p i (raw_number z))).answer
    raw-number-back z = write-number-back (request o p i (raw_number z))

    pub physical-number-back : (s : List ℕ) → call_back (call_number (writing t n base k (request o p i (physical_text s))).answer) ≡ (writing t n base k (request o p i (physical_text s))).answer
    physical-number-back s = write-number-back (request o p i (physical_text s))

-- ---- a listing
listed_back : (a : Answer (List ℕ)) (out : List ℕ) → Numbered a → listing_back (listing_number (listed_by a out).answer) ≡ (listed_by a out).answer
listed_back (given b) out h = refl
listed_back (refused n) out (was_refused m) = refl

pub listing-number-back : (x t : List ℕ) (base : ℕ) (k : Kept) (out : List ℕ) → listing_back (listing_number (listing x t base k out).answer) ≡ (listing x t base k out).answer
unfolding listing
listing-number-back x t base k out =
    let b = printed x t (columns_of k) in
    let a = checked t (lent_by (length x) base k) (has_room t k) (if_fits b out) in
    listed_back a out
    (numbered (20 ∷ 22 ∷ 20 ∷ []) refl a
    (checked-numbers t (lent_by (length x) base k) (has_room t k) (20 ∷ []) (if_fits b out) (unless-numbers (leb (length b) (length out)) 20 [] (given b) (given-numbers [] b))))
