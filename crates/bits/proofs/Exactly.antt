-- WHY THESE ARE THE ELEMENT'S BITS: two images tell the same raw number of an element exactly if each byte has the same of its bits in both.
--     reads-exactly
-- Assumes nothing.
use mathlib.Core.Path.{◌≡◌, refl, sym, ap, ap₂, ◌∙◌, subst}
use mathlib.Core.Bool.{Bool, true, false, cond}
use mathlib.Core.List.{List}
use mathlib.Core.Logic.{◌↔◌}
use Prim.Native.Nat.{ℕ, zero, suc, ◌+◌, ◌*◌, ◌-◌, ◌/◌, ◌%◌, ◌^◌, ◌≤◌, ◌<◌}
use native.Mathlib.Nat.{pow-suc, zero-add, mul_assoc, mul-mod_left, mod-add-div', mod-eq_of_lt}
use native.Mathlib.Omega.{arith}
use borrow.Author.Tests.{le-leb}
use lib.Bits.{bit_and, and_zero_r, and_le_l, and_mod, and_mask}
use lib.Count.{count_trailing_zeros, under}
use lib.Dec.{ltb}
use lib.IntN.{ℤ, pos, negsuc, nat_abs, ◌-ℤ◌}
use lib.ListN.{length, get_or}
use lib.Seq.{ext_get_or}
use Rattle.cell.specs.declared.kind.Shape.{Shape}
use Rattle.cell.specs.Bytes.{number, digits, stored_at}
use Rattle.cell.specs.Mask.{lowest, masked}
use Rattle.cell.specs.Sign.{typed}
use Rattle.cell.specs.Raw.{raw_of, raw_at}
use Rattle.cell.proofs.Stored.{number_digits, length_digits}
use Rattle.cell.proofs.Types.{down}
use Rattle.cell.proofs.Laws.{pow-256, stored-lt}
use Rattle.bits.specs.Bits.{own_mask, bits_in}
use Rattle.bits.proofs.Digits.{digit, rank, digit_and, digits-at, rank_lt, rank-rank, stored-byte, stands-in, stands-out}
use Rattle.bits.proofs.Images.{by_byte}

-- ---- a number that w bytes hold is told by its type
abbrev sign : ℤ → ℕ
sign (pos n) = 0
sign (negsuc n) = 1

typed_one : (s : Bool) (w n m : ℕ) → n < 256 ^ w → m < 256 ^ w → typed s w n ≡ typed s w m → n ≡ m
typed_one false w n m h k e = ap nat_abs e
typed_one true w n m h k e = go (ltb n (256 ^ w / 2)) (ltb m (256 ^ w / 2)) e
  where
    go : (a b : Bool) → cond a (pos n) (pos n -ℤ pos (256 ^ w)) ≡ cond b (pos m) (pos m -ℤ pos (256 ^ w)) → n ≡ m
    go true true e = ap nat_abs e
    go true false e = let z : ◌≡◌ {A = ℕ} 0 1 = ap sign (e ∙ down w m k) in absurd (omega arith)
    go false true e = let z : ◌≡◌ {A = ℕ} 1 0 = ap sign (sym (down w n h) ∙ e) in absurd (omega arith)
    go false false e =
        let z : suc (256 ^ w - suc n) ≡ suc (256 ^ w - suc m) = ap nat_abs (sym (down w n h) ∙ e ∙ down w m k) in
        omega arith

-- ---- and by its mask
whole : (a d : ℕ) → a % d ≡ 0 → a ≡ a / d * d
whole a d e = sym (mod-add-div' a d) ∙ ap (λ (x : ℕ). x + a / d * d) e ∙ zero-add (a / d * d)

doubled : (n d : ℕ) → n % 2 ≡ 0 → n / 2 % d ≡ 0 → n % (d * 2) ≡ 0
doubled n d e f =
    let q = n / 2 / d in
    let h : n / 2 ≡ q * d = whole (n / 2) d f in
    let k : n ≡ n / 2 * 2 = omega arith in
    let z : n ≡ q * (d * 2) = k ∙ ap (λ (x : ℕ). x * 2) h ∙ mul_assoc q d 2 in
    ap (λ (x : ℕ). x % (d * 2)) z ∙ mul-mod_left q (d * 2)

by-low : (n t r : ℕ) → n % 2 ≡ r → n / 2 % 2 ^ t ≡ 0 → n % 2 ^ under r t ≡ 0
by-low n t zero e f = rw (pow-suc 2 t) (doubled n (2 ^ t) e f)
by-low n t (suc r) e f = omega arith

-- below its lowest set bit a mask has none
low_zeros : (k n : ℕ) → n % 2 ^ count_trailing_zeros k n ≡ 0
unfolding count_trailing_zeros
low_zeros zero n = omega arith
low_zeros (suc k) n = by-low n (count_trailing_zeros k (n / 2)) (n % 2) refl (low_zeros k (n / 2))

masked-one : (n m mask : ℕ) → masked n mask ≡ masked m mask → bit_and n mask ≡ bit_and m mask
masked-one n m mask e = part n ∙ ap (λ (x : ℕ). x * 2 ^ lowest mask) e ∙ sym (part m)
  where
    rest : (n : ℕ) → bit_and n mask % 2 ^ lowest mask ≡ 0
    rest n = and_mod n mask (lowest mask) ∙ ap (bit_and (n % 2 ^ lowest mask)) (low_zeros 64 mask) ∙ and_zero_r (n % 2 ^ lowest mask)

    part : (n : ℕ) → bit_and n mask ≡ bit_and n mask / 2 ^ lowest mask * 2 ^ lowest mask
    part n = whole (bit_and n mask) (2 ^ lowest mask) (rest n)

-- ---- so the raw number and the bits under the element's own mask tell each other
all-bits : (w n : ℕ) → n < 256 ^ w → bit_and n (256 ^ w - 1) ≡ n
all-bits w n h = rw (pow-256 w) (and_mask n (8 * w) ∙ mod-eq_of_lt (rw (pow-256 w) at h))

own-of-raw : (t : Shape) (mask n m : ℕ) → n < 256 ^ t.bytes → m < 256 ^ t.bytes → raw_of t mask n ≡ raw_of t mask m
    → bit_and n (own_mask t.bytes mask) ≡ bit_and m (own_mask t.bytes mask)
unfolding raw_of
own-of-raw t zero n m h k e = ap (λ (x : ℕ). bit_and x (256 ^ t.bytes - 1)) (typed_one t.signed t.bytes n m h k e)
own-of-raw t (suc mask) n m h k e = masked-one n m (suc mask) (ap nat_abs e)

raw_of-own : (t : Shape) (mask n m : ℕ) → n < 256 ^ t.bytes → m < 256 ^ t.bytes → bit_and n (own_mask t.bytes mask) ≡ bit_and m (own_mask t.bytes mask)
    → raw_of t mask n ≡ raw_of t mask m
unfolding raw_of
raw_of-own t zero n m h k e = ap (typed t.signed t.bytes) (sym (all-bits t.bytes n h) ∙ e ∙ all-bits t.bytes m k)
raw_of-own t (suc mask) n m h k e = ap (λ (x : ℕ). pos (x / 2 ^ lowest (suc mask))) e

-- numbers of w bytes with the same bytes are the same
same_digits : (w n m : ℕ) → n < 256 ^ w → m < 256 ^ w → ((j : ℕ) → j < w → digit n j ≡ digit m j) → n ≡ m
same_digits w n m h k e =
    sym (number_digits w n h)
    ∙ ap number (ext_get_or 0 (digits w n) (digits w m) (length_digits w n ∙ sym (length_digits w m))
    (λ j l. let i : j < w = omega (arith, length_digits w n) in digits-at w n j i ∙ e j i ∙ sym (digits-at w m j i)))
    ∙ number_digits w m k

-- ---- two images
module _ (first : Bool) (p : ℕ) (t : Shape) (mask : ℕ) (I J : List ℕ) (bytesI : (j : ℕ) → get_or I j 0 < 256) (bytesJ : (j : ℕ) → get_or J j 0 < 256)
    (insideI : p + t.bytes ≤ length I) (insideJ : p + t.bytes ≤ length J) where
  abbrev w : ℕ
  w = t.bytes

  abbrev own : ℕ
  own = own_mask w mask

  -- byte b has the same of the element's bits in both
  abbrev SameBits : ℕ → Type 0
  SameBits b = bit_and (get_or I b 0) (bits_in first p w mask b) ≡ bit_and (get_or J b 0) (bits_in first p w mask b)

  -- the element's bits of byte i of its w, in an image
  byte-is : (s : List ℕ) → ((j : ℕ) → get_or s j 0 < 256) → p + w ≤ length s → (i : ℕ) → i < w
      → bit_and (get_or s (p + i) 0) (bits_in first p w mask (p + i)) ≡ digit (bit_and (stored_at first p w s) own) (rank first w i)
  unfolding bits_in
  byte-is s b l i h =
      ap₂ bit_and (sym (stored-byte first p w s l i h b)) (stands-in first p w own i h)
      ∙ sym (digit_and (stored_at first p w s) own (rank first w i))

  same-own : ((b : ℕ) → SameBits b) → bit_and (stored_at first p w I) own ≡ bit_and (stored_at first p w J) own
  same-own e =
      same_digits w (bit_and (stored_at first p w I) own) (bit_and (stored_at first p w J) own)
      (omega (arith, and_le_l (stored_at first p w I) own, stored-lt first p w I bytesI insideI))
      (omega (arith, and_le_l (stored_at first p w J) own, stored-lt first p w J bytesJ insideJ))
      (λ j l. let i = rank first w j in
      let r : rank first w i ≡ j = rank-rank first w j l in
      subst (λ (x : ℕ). digit (bit_and (stored_at first p w I) own) x ≡ digit (bit_and (stored_at first p w J) own) x) r
      (sym (byte-is I bytesI insideI i (rank_lt first w j l)) ∙ e (p + i) ∙ byte-is J bytesJ insideJ i (rank_lt first w j l)))

  same_bits : bit_and (stored_at first p w I) own ≡ bit_and (stored_at first p w J) own → (b : ℕ) → SameBits b
  unfolding bits_in
  same_bits e b =
      by_byte p w b SameBits
      (λ i h. byte-is I bytesI insideI i h ∙ ap (λ (x : ℕ). digit x (rank first w i)) e ∙ sym (byte-is J bytesJ insideJ i h))
      (λ o. rw (stands-out first p w own b o, and_zero_r (get_or I b 0), and_zero_r (get_or J b 0)))

  raw-is : (s : List ℕ) → p + w ≤ length s → raw_at first p t mask s ≡ raw_of t mask (stored_at first p w s)
  unfolding raw_at
  raw-is s l = rw (le-leb (p + w) (length s) l)

  pub reads-exactly : (raw_at first p t mask I ≡ raw_at first p t mask J) ↔ ((b : ℕ) → SameBits b)
  reads-exactly = (
    λ e. same_bits (own-of-raw t mask (stored_at first p w I) (stored_at first p w J) (stored-lt first p w I bytesI insideI) (stored-lt first p w J bytesJ insideJ)
        (sym (raw-is I insideI) ∙ e ∙ raw-is J insideJ)),
    λ e. raw-is I insideI
        ∙ raw_of-own t mask (stored_at first p w I) (stored_at first p w J) (stored-lt first p w I bytesI insideI) (stored-lt first p w J bytesJ insideJ) (same-own e)
        ∙ sym (raw-is J insideJ),
  )
