-- The bridge from a stored number to the bits of each byte: what a write leaves in every byte of an image, and two writes in either order.
--     written_byte     every byte after a write: outside the element's bits as it was, inside them the number's
--     written-rest, written-bytes     no bit that is not the element's changes, and bytes stay bytes
--     written-swap     two writes whose bits don't meet leave the same image in either order
-- Assumes nothing.
use mathlib.Core.Path.{◌≡◌, refl, sym, ap, ◌∙◌, subst}
use mathlib.Core.Bool.{Bool, true, false}
use mathlib.Core.List.{List}
use mathlib.Core.Logic.{◌⊎◌, inl, inr}
use Prim.Native.Nat.{ℕ, zero, suc, ◌+◌, ◌-◌, ◌^◌, ◌≤◌, ◌<◌}
use native.Mathlib.Nat.{pow-suc}
use native.Mathlib.Omega.{arith}
use borrow.Author.Tests.{ltb-true, ltb-false, leb-true, leb-false, eqb-true}
use lib.Bits.{bit_and, bit_or, and_zero_r, or_zero_r}
use lib.Dec.{ltb, leb}
use lib.IntN.{ℤ, pos, negsuc, nat_abs}
use lib.ListN.{length, get_or}
use lib.Seq.{ext_get_or}
use Rattle.cell.specs.declared.kind.Shape.{Shape}
use Rattle.cell.specs.Bytes.{stored_at}
use Rattle.cell.specs.Mask.{shifted, outside}
use Rattle.cell.specs.Sign.{bits_of}
use Rattle.cell.specs.Raw.{fits_raw, stored_with, written}
use Rattle.cell.proofs.Types.{clash, power_le}
use Rattle.cell.proofs.Laws.{new, written_is, length-kept, bytes-kept}
use Rattle.bits.specs.Bits.{stands_in, own_mask, bits_in}
use Rattle.bits.proofs.Digits.{digit, rank, digit_lt, digit_and, digit_or, digit_not, zero-digit, rank_lt, stored-byte, new-byte, stands-in, stands-out}
use Rattle.bits.proofs.Blends.{blended, and-all, blended-lt, blended-rest, blended-swap}

-- ---- one byte of a stored number

-- what a raw number puts under an element's mask; without a mask, its stored number
abbrev pub own_value : ℕ → ℕ → ℤ → ℕ
own_value w zero z = bits_of w z
own_value w (suc m) z = shifted (nat_abs z) (suc m)

-- without a mask every bit of a byte is the element's
all_own : (w j : ℕ) → j < w → digit (own_mask w 0) j ≡ 255
all_own w j l =
    let e : 256 ^ w - 1 ≡ 256 ^ w - 1 - 0 = omega arith in
    ap (λ (x : ℕ). digit x j) e ∙ digit_not w 0 j (power_pos w) l ∙ ap (λ (x : ℕ). 255 - x) (zero-digit j)
  where
    power_pos : (w : ℕ) → 0 < 256 ^ w
    power_pos zero = omega arith
    power_pos (suc w) = rw (pow-suc 256 w) (let h = power_pos w in omega arith)

-- a number that fits has no bit outside its mask
value_in : (t : Shape) (mask : ℕ) (z : ℤ) (j : ℕ) → j < t.bytes → fits_raw t mask z ≡ true
    → bit_and (digit (own_value t.bytes mask z) j) (digit (own_mask t.bytes mask) j) ≡ digit (own_value t.bytes mask z) j
unfolding fits_raw
value_in t zero z j l f = ap (bit_and (digit (bits_of t.bytes z) j)) (all_own t.bytes j l) ∙ and-all (digit (bits_of t.bytes z) j) (digit_lt (bits_of t.bytes z) j)
value_in t (suc m) (pos n) j l f =
    sym (digit_and (shifted n (suc m)) (suc m) j) ∙ ap (λ (x : ℕ). digit x j) (eqb-true (bit_and (shifted n (suc m)) (suc m)) (shifted n (suc m)) f)
value_in t (suc m) (negsuc n) j l f = clash (sym f)

-- the stored number with a raw number in it
with_byte : (t : Shape) (mask old : ℕ) (z : ℤ) (j : ℕ) → t.bytes ≤ 4 → mask < 256 ^ t.bytes → j < t.bytes
    → digit (stored_with t mask old z) j ≡ blended (digit (own_mask t.bytes mask) j) (digit (own_value t.bytes mask z) j) (digit old j)
unfolding stored_with
with_byte t zero old z j s w l = rw (all_own t.bytes j l, and_zero_r (digit old j))
with_byte t (suc m) old z j s w l =
    digit_or (bit_and old (outside (suc m))) (shifted (nat_abs z) (suc m)) j
    ∙ ap (λ (x : ℕ). bit_or x (digit (shifted (nat_abs z) (suc m)) j))
    (digit_and old (outside (suc m)) j ∙ ap (bit_and (digit old j)) (digit_not 8 (suc m) j (omega (arith, power_le t.bytes s)) (omega arith)))

-- ---- by whether a byte is one of the w bytes at p
pub by_byte : (p w b : ℕ) (P : ℕ → Type 0) → ((i : ℕ) → i < w → P (p + i)) → ((b < p) ⊎ (p + w ≤ b) → P b) → P b
by_byte p w b P f g = go (leb p b) refl (ltb b (p + w)) refl
  where
    go : (x : Bool) → leb p b ≡ x → (y : Bool) → ltb b (p + w) ≡ y → P b
    go false e y k = g (inl (leb-false p b e))
    go true e false k = g (inr (ltb-false b (p + w) k))
    go true e true k =
        let l = leb-true p b e in
        let h = ltb-true b (p + w) k in
        let z : p + (b - p) ≡ b = omega arith in
        subst P z (f (b - p) (omega arith))

stands-lt : (first : Bool) (p w n b : ℕ) → stands_in first p w n b < 256
stands-lt first p w n b =
    by_byte p w b (λ (x : ℕ). stands_in first p w n x < 256)
    (λ i h. subst (λ (y : ℕ). y < 256) (sym (stands-in first p w n i h)) (digit_lt n (rank first w i)))
    (λ o. subst (λ (y : ℕ). y < 256) (sym (stands-out first p w n b o)) (omega arith))

-- ---- an element of an image of m bytes: its type has at most four bytes, its mask is within the type, the number fits, and its bytes are in the image
pub record Good (p : ℕ) (t : Shape) (mask : ℕ) (z : ℤ) (m : ℕ) : Type 0 where
  pub small : t.bytes ≤ 4
  pub within : mask < 256 ^ t.bytes
  pub fits : fits_raw t mask z ≡ true
  pub inside : p + t.bytes ≤ m

module _ (first : Bool) (p : ℕ) (t : Shape) (mask : ℕ) (z : ℤ) where
  abbrev w : ℕ
  w = t.bytes

  abbrev own : ℕ → ℕ
  own = bits_in first p w mask

  abbrev value : ℕ → ℕ
  value = stands_in first p w (own_value w mask z)

  own-lt : (b : ℕ) → own b < 256
  unfolding bits_in
  own-lt b = stands-lt first p w (own_mask w mask) b

  value-lt : (b : ℕ) → value b < 256
  value-lt b = stands-lt first p w (own_value w mask z) b

  value-own : fits_raw t mask z ≡ true → (b : ℕ) → bit_and (value b) (own b) ≡ value b
  unfolding bits_in
  value-own f b =
      by_byte p w b (λ (x : ℕ). bit_and (value x) (own x) ≡ value x)
      (λ i h. rw (stands-in first p w (own_value w mask z) i h, stands-in first p w (own_mask w mask) i h) (value_in t mask z (rank first w i) (rank_lt first w i h) f))
      (λ o. rw (stands-out first p w (own_value w mask z) b o))

  module _ (s : List ℕ) (g : Good p t mask z (length s)) (bytes : (j : ℕ) → get_or s j 0 < 256) where
    -- EVERY BYTE AFTER A WRITE: outside the element's bits as it was, inside them the number's
    pub written_byte : (b : ℕ) → get_or (written first p t mask z s) b 0 ≡ blended (own b) (value b) (get_or s b 0)
    unfolding new bits_in
    written_byte b =
        by_byte p w b (λ (x : ℕ). get_or (written first p t mask z s) x 0 ≡ blended (own x) (value x) (get_or s x 0))
        (λ i h. rw (stands-in first p w (own_value w mask z) i h, stands-in first p w (own_mask w mask) i h) (inner i h))
        (λ o. rw (stands-out first p w (own_value w mask z) b o, stands-out first p w (own_mask w mask) b o) (outer o))
      where
        inner : (i : ℕ) → i < t.bytes → get_or (written first p t mask z s) (p + i) 0
            ≡ blended (digit (own_mask w mask) (rank first w i)) (digit (own_value w mask z) (rank first w i)) (get_or s (p + i) 0)
        inner i h =
            let old = stored_at first p w s in
            let j = rank first w i in
            ap (λ (l : List ℕ). get_or l (p + i) 0) (written_is first p t mask z s g.fits g.inside)
            ∙ new-byte first p w s g.inside i h (stored_with t mask old z)
            ∙ with_byte t mask old z j g.small g.within (rank_lt first w i h)
            ∙ ap (blended (digit (own_mask w mask) j) (digit (own_value w mask z) j)) (stored-byte first p w s g.inside i h bytes)

        outer : (b < p) ⊎ (p + t.bytes ≤ b) → get_or (written first p t mask z s) b 0 ≡ blended 0 0 (get_or s b 0)
        outer o = bytes-kept first p t mask z s b o ∙ sym (or_zero_r (bit_and (get_or s b 0) 255) ∙ and-all (get_or s b 0) (bytes b))

    -- so no bit that the element has not is altered
    pub written-rest : (b : ℕ) → bit_and (get_or (written first p t mask z s) b 0) (255 - own b) ≡ bit_and (get_or s b 0) (255 - own b)
    written-rest b =
        ap (λ (x : ℕ). bit_and x (255 - own b)) (written_byte b)
        ∙ blended-rest (own b) (value b) (get_or s b 0) (own-lt b) (value-own g.fits b)

    -- an image of bytes stays one
    pub written-bytes : (b : ℕ) → get_or (written first p t mask z s) b 0 < 256
    written-bytes b =
        subst (λ (x : ℕ). x < 256) (sym (written_byte b)) (blended-lt (own b) (value b) (get_or s b 0) (value-lt b) (bytes b))

-- ---- TWO WRITES WHOSE BITS MEET NOWHERE: either order leaves the same image
module _ (s : List ℕ) (bytes : (j : ℕ) → get_or s j 0 < 256)
    (f : Bool) (p : ℕ) (t : Shape) (m : ℕ) (z : ℤ) (g : Good p t m z (length s))
    (f' : Bool) (p' : ℕ) (t' : Shape) (m' : ℕ) (z' : ℤ) (g' : Good p' t' m' z' (length s))
    (apart : (b : ℕ) → bit_and (bits_in f p t.bytes m b) (bits_in f' p' t'.bytes m' b) ≡ 0) where
  pub written-swap : written f' p' t' m' z' (written f p t m z s) ≡ written f p t m z (written f' p' t' m' z' s)
  written-swap =
      ext_get_or 0 (written f' p' t' m' z' (written f p t m z s)) (written f p t m z (written f' p' t' m' z' s))
      (length-kept f' p' t' m' z' (written f p t m z s) ∙ length-kept f p t m z s
      ∙ sym (length-kept f p t m z (written f' p' t' m' z' s) ∙ length-kept f' p' t' m' z' s))
      (λ b l. byte b)
    where
      later : (p : ℕ) (t : Shape) (m : ℕ) (z : ℤ) (x : List ℕ) → length x ≡ length s → Good p t m z (length s) → Good p t m z (length x)
      later p t m z x e g = subst (λ (n : ℕ). Good p t m z n) (sym e) g

      byte : (b : ℕ) → get_or (written f' p' t' m' z' (written f p t m z s)) b 0 ≡ get_or (written f p t m z (written f' p' t' m' z' s)) b 0
      byte b =
          let o = own f p t m z b in
          let o' = own f' p' t' m' z' b in
          let v = value f p t m z b in
          let v' = value f' p' t' m' z' b in
          written_byte f' p' t' m' z' (written f p t m z s) (later p' t' m' z' (written f p t m z s) (length-kept f p t m z s) g') (written-bytes f p t m z s g bytes) b
          ∙ ap (blended o' v') (written_byte f p t m z s g bytes b)
          ∙ blended-swap o v o' v' (get_or s b 0) (own-lt f p t m z b) (own-lt f' p' t' m' z' b) (value-lt f p t m z b) (value-lt f' p' t' m' z' b)
          (value-own f p t m z g.fits b) (value-own f' p' t' m' z' g'.fits b) (apart b)
          ∙ sym (written_byte f p t m z (written f' p' t' m' z' s) (later p t m z (written f' p' t' m' z' s) (length-kept f' p' t' m' z' s) g) (written-bytes f' p' t' m' z' s g' bytes) b
          ∙ ap (blended o v) (written_byte f' p' t' m' z' s g' bytes b))
