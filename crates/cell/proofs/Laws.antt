-- THE LAWS of an element: what is written is read back, for any width, byte order and mask; a write changes no bit outside the mask, no byte
-- outside the element and not the length; reading depends on the element's bytes alone, and so a write leaves every element apart from it alone.
use mathlib.Core.Path.{◌≡◌, refl, sym, ap, subst, ◌∙◌}
use mathlib.Core.Bool.{Bool, true, false, cond}
use mathlib.Core.List.{List, [], ◌∷◌, ◌++◌, reverse_aux}
use mathlib.Core.Logic.{◌⊎◌, inl, inr, ⊎_elim}
use Prim.Native.Nat.{ℕ, zero, suc, ◌+◌, ◌*◌, ◌-◌, ◌/◌, ◌^◌, ◌≤◌, ◌<◌}
use native.Mathlib.Nat.{pow-suc}
use native.Mathlib.Omega.{arith}
use borrow.Author.Tests.{ltb-true, ltb-false, eqb-true, leb-true, le-leb}
use lib.Bits.{bit_and, and_le_l, and_le_r, or_lt}
use lib.Dec.{ltb, lit<}
use lib.IntN.{ℤ, pos, negsuc, nat_abs, ◌-ℤ◌}
use lib.ListN.{length, take, drop, get_or, length-append, length-take, length-drop, get_or-append}
use lib.Pow.{pow-add}
use lib.Seq.{ext_get_or, get_or-take, get_or-drop, get_or-append-add, length-take-le}
use Rattle.cell.specs.declared.kind.Shape.{Shape}
use Rattle.cell.specs.Bytes.{number, digits, ordered, stored_at, with_stored}
use Rattle.cell.specs.Mask.{shifted, fits_mask, outside, inserted}
use Rattle.cell.specs.Sign.{typed, fits_type, bits_of}
use Rattle.cell.specs.Raw.{raw_of, fits_raw, stored_with, is_inside, raw_at, written}
use Rattle.cell.proofs.Stored.{get-put, length-ordered, length_digits}
use Rattle.cell.proofs.Masks.{masked-inserted, masked-le, kept}
use Rattle.cell.proofs.Types.{clash, typed-bits, power_le, down}
use Rattle.cell.proofs.Raws.{unfit-kept, write-out}

-- ---- lists of bytes
abbrev Bytes : List ℕ → Type 0
Bytes [] = Unit {0}
Bytes (b ∷ bs) = (b < 256) × Bytes bs

of-each : (bs : List ℕ) → ((i : ℕ) → get_or bs i 0 < 256) → Bytes bs
of-each [] h = tt
of-each (b ∷ bs) h = (h 0, of-each bs (λ i. h (suc i)))

of-take : (n : ℕ) (bs : List ℕ) → Bytes bs → Bytes (take n bs)
of-take zero bs h = tt
of-take (suc n) [] h = tt
of-take (suc n) (b ∷ bs) h = (h.0, of-take n bs h.1)

of-drop : (n : ℕ) (bs : List ℕ) → Bytes bs → Bytes (drop n bs)
of-drop zero bs h = h
of-drop (suc n) [] h = tt
of-drop (suc n) (b ∷ bs) h = of-drop n bs h.1

of_reverse : (bs cs : List ℕ) → Bytes bs → Bytes cs → Bytes (reverse_aux bs cs)
of_reverse [] cs h k = k
of_reverse (b ∷ bs) cs h k = of_reverse bs (b ∷ cs) h.1 (h.0, k)

of-ordered : (first : Bool) (bs : List ℕ) → Bytes bs → Bytes (ordered first bs)
of-ordered true bs h = of_reverse bs [] h tt
of-ordered false bs h = h

number_lt : (bs : List ℕ) → Bytes bs → number bs < 256 ^ length bs
unfolding number
number_lt [] h = lit< tt
number_lt (b ∷ bs) h = rw pow-suc (let k = number_lt bs h.1 in omega (arith, h.0))

-- w bytes hold a number below 256^w
pub stored-lt : (first : Bool) (p w : ℕ) (s : List ℕ) → ((i : ℕ) → get_or s i 0 < 256) → p + w ≤ length s → stored_at first p w s < 256 ^ w
stored-lt first p w s h l =
    let part : length (take w (drop p s)) ≡ w = simp (length-take, length-drop) (omega arith) in
    subst (λ (n : ℕ). stored_at first p w s < 256 ^ n) (length-ordered first (take w (drop p s)) ∙ part)
    (number_lt (ordered first (take w (drop p s))) (of-ordered first (take w (drop p s)) (of-take w (drop p s) (of-drop p s (of-each s h)))))

-- ---- what is stored fits the bytes
pub pow-256 : (w : ℕ) → 256 ^ w ≡ 2 ^ (8 * w)
pow-256 zero = refl
pow-256 (suc w) =
    let e : 8 * suc w ≡ 8 * w + 8 = omega arith in
    pow-suc 256 w ∙ ap (λ (n : ℕ). n * 256) (pow-256 w) ∙ sym (pow-add 2 (8 * w) 8) ∙ ap (λ (n : ℕ). 2 ^ n) (sym e)

inserted-lt : (w old m raw : ℕ) → old < 256 ^ w → m < 256 ^ w → fits_mask raw m ≡ true → inserted old m raw < 256 ^ w
inserted-lt w old m raw h k f =
    rw (pow-256 w) (or_lt (8 * w) (bit_and old (outside m)) (shifted raw m)
    (omega (arith, rw (pow-256 w) at h, and_le_l old (outside m)))
    (omega (arith, rw (pow-256 w) at k, eqb-true (bit_and (shifted raw m) m) (shifted raw m) f, and_le_r (shifted raw m) m)))

bits-lt : (s : Bool) (w : ℕ) (z : ℤ) → fits_type s w z ≡ true → bits_of w z < 256 ^ w
bits-lt false w (pos n) f = ltb-true n (256 ^ w) f
bits-lt false w (negsuc n) f = clash (sym f)
bits-lt true w (pos n) f = let k = ltb-true n (256 ^ w / 2) f in omega arith
bits-lt true w (negsuc n) f = let k = ltb-true n (256 ^ w / 2) f in omega arith

with-lt : (t : Shape) (m old : ℕ) (z : ℤ) → old < 256 ^ t.bytes → m < 256 ^ t.bytes → fits_raw t m z ≡ true → stored_with t m old z < 256 ^ t.bytes
unfolding fits_raw stored_with
with-lt t zero old z h k f = bits-lt t.signed t.bytes z f
with-lt t (suc m) old (pos n) h k f = inserted-lt t.bytes old (suc m) n h k f
with-lt t (suc m) old (negsuc n) h k f = clash (sym f)

raw-with : (t : Shape) (m old : ℕ) (z : ℤ) → m < 2 ^ 64 → fits_raw t m z ≡ true → raw_of t m (stored_with t m old z) ≡ z
unfolding fits_raw stored_with raw_of
raw-with t zero old z k f = typed-bits t.signed t.bytes z f
raw-with t (suc m) old (pos n) k f = ap pos (masked-inserted old (suc m) n k f)
raw-with t (suc m) old (negsuc n) k f = clash (sym f)

with-kept : (t : Shape) (m old : ℕ) (z : ℤ) → 0 < m → m < 2 ^ 64 → fits_raw t m z ≡ true → bit_and (stored_with t m old z) (outside m) ≡ bit_and old (outside m)
unfolding fits_raw stored_with
with-kept t zero old z l k f = absurd (omega arith)
with-kept t (suc m) old (pos n) l k f = kept old (suc m) n k f
with-kept t (suc m) old (negsuc n) l k f = clash (sym f)

-- a list with w of its elements exchanged has the others as they were
pub around : (p w : ℕ) (mid s : List ℕ) → length mid ≡ w → p + w ≤ length s → (i : ℕ) → (i < p) ⊎ (p + w ≤ i) → get_or (take p s ++ mid ++ drop (p + w) s) i 0 ≡ get_or s i 0
around p w mid s m l i = ⊎_elim before after
  where
    long : length (take p s ++ mid) ≡ p + w
    long = length-append (take p s) mid ∙ omega (arith, length-take-le p s (omega arith))

    before : i < p → get_or (take p s ++ mid ++ drop (p + w) s) i 0 ≡ get_or s i 0
    before h =
        get_or-append (take p s ++ mid) (drop (p + w) s) 0 i (omega (arith, long))
        ∙ get_or-append (take p s) mid 0 i (omega (arith, length-take-le p s (omega arith))) ∙ get_or-take p s i 0 h

    after : p + w ≤ i → get_or (take p s ++ mid ++ drop (p + w) s) i 0 ≡ get_or s i 0
    after h =
        let e : i ≡ length (take p s ++ mid) + (i - (p + w)) = omega (arith, long) in
        let g : p + w + (i - (p + w)) ≡ i = omega arith in
        ap (λ (k : ℕ). get_or (take p s ++ mid ++ drop (p + w) s) k 0) e ∙ get_or-append-add (take p s ++ mid) (drop (p + w) s) (i - (p + w)) 0
        ∙ get_or-drop (p + w) s (i - (p + w)) 0 ∙ ap (λ (k : ℕ). get_or s k 0) g

-- ---- a write, by whether it changes anything
module _ (first : Bool) (p : ℕ) (t : Shape) (mask : ℕ) (z : ℤ) (s : List ℕ) where
  unfoldable pub new : List ℕ
  new = with_stored first p t.bytes (stored_with t mask (stored_at first p t.bytes s) z) s

  pub written_is : fits_raw t mask z ≡ true → p + t.bytes ≤ length s → written first p t mask z s ≡ new
  unfolding written new
  written_is f l = rw (f, le-leb (p + t.bytes) (length s) l)

  -- what holds of the image as it was and of the changed one holds of the image after the write
  pub either : (P : List ℕ → Type 0) → P s → (fits_raw t mask z ≡ true → p + t.bytes ≤ length s → P new) → P (written first p t mask z s)
  either P k f = by_fit (fits_raw t mask z) refl
    where
      by_place : (b : Bool) → is_inside p t.bytes s ≡ b → fits_raw t mask z ≡ true → P (written first p t mask z s)
      by_place true e y = let l = leb-true (p + t.bytes) (length s) e in subst P (sym (written_is y l)) (f y l)
      by_place false e y = subst P (write-out first p t mask s z (sym e) refl) k

      by_fit : (b : Bool) → fits_raw t mask z ≡ b → P (written first p t mask z s)
      by_fit true y = by_place (is_inside p t.bytes s) refl y
      by_fit false y = subst P (sym (unfit-kept first p t mask s z y)) k

  new-length : p + t.bytes ≤ length s → length new ≡ length s
  unfolding new
  new-length l =
      let w = t.bytes in
      let n = stored_with t mask (stored_at first p w s) z in
      let a : length (ordered first (digits w n)) ≡ w = length-ordered first (digits w n) ∙ length_digits w n in
      simp (length-append, length-take, length-drop) (omega (arith, a))

  new-bytes : p + t.bytes ≤ length s → (i : ℕ) → (i < p) ⊎ (p + t.bytes ≤ i) → get_or new i 0 ≡ get_or s i 0
  unfolding new
  new-bytes l i o =
      let n = stored_with t mask (stored_at first p t.bytes s) z in
      around p t.bytes (ordered first (digits t.bytes n)) s (length-ordered first (digits t.bytes n) ∙ length_digits t.bytes n) l i o

  -- THE LENGTH is kept.
  pub length-kept : length (written first p t mask z s) ≡ length s
  length-kept = either (λ (x : List ℕ). length x ≡ length s) refl (λ f l. new-length l)

  -- BYTES OUTSIDE THE ELEMENT are kept.
  pub bytes-kept : (i : ℕ) → (i < p) ⊎ (p + t.bytes ≤ i) → get_or (written first p t mask z s) i 0 ≡ get_or s i 0
  bytes-kept i o = either (λ (x : List ℕ). get_or x i 0 ≡ get_or s i 0) refl (λ f l. new-bytes l i o)

  module _ (small : t.bytes ≤ 4) (within : mask < 256 ^ t.bytes) (bytes : (i : ℕ) → get_or s i 0 < 256) where
    mask_lt : mask < 2 ^ 64
    mask_lt = omega (arith, power_le t.bytes small)

    stored-new : fits_raw t mask z ≡ true → p + t.bytes ≤ length s → stored_at first p t.bytes new ≡ stored_with t mask (stored_at first p t.bytes s) z
    unfolding new
    stored-new f l =
        let old = stored_at first p t.bytes s in
        get-put first p t.bytes (stored_with t mask old z) s l (with-lt t mask old z (stored-lt first p t.bytes s bytes l) within f)

    -- WRITTEN, THEN READ, is the raw number.
    pub read_back : fits_raw t mask z ≡ true → p + t.bytes ≤ length s → raw_at first p t mask (written first p t mask z s) ≡ z
    unfolding raw_at
    read_back f l =
        rw (length-kept, le-leb (p + t.bytes) (length s) l, written_is f l)
        (ap (raw_of t mask) (stored-new f l) ∙ raw-with t mask (stored_at first p t.bytes s) z mask_lt f)

    -- BITS OUTSIDE THE MASK are kept.
    pub bits-kept : 0 < mask → bit_and (stored_at first p t.bytes (written first p t mask z s)) (outside mask) ≡ bit_and (stored_at first p t.bytes s) (outside mask)
    bits-kept h =
        either (λ (x : List ℕ). bit_and (stored_at first p t.bytes x) (outside mask) ≡ bit_and (stored_at first p t.bytes s) (outside mask)) refl
        (λ f l. ap (λ (n : ℕ). bit_and n (outside mask)) (stored-new f l) ∙ with-kept t mask (stored_at first p t.bytes s) z h mask_lt f)

-- ---- reading
module _ (first : Bool) (p : ℕ) (t : Shape) (mask : ℕ) where
  -- READING DEPENDS ON THE ELEMENT'S BYTES ALONE (and on whether they are inside, which the length says).
  pub reads-alone : (s r : List ℕ) → length s ≡ length r → ((i : ℕ) → p ≤ i → i < p + t.bytes → get_or s i 0 ≡ get_or r i 0) → raw_at first p t mask s ≡ raw_at first p t mask r
  unfolding raw_at
  reads-alone s r e h =
      rw e (ap (λ (x : List ℕ). cond (is_inside p t.bytes r) (raw_of t mask (number (ordered first x))) (pos 0))
      (ext_get_or 0 (take t.bytes (drop p s)) (take t.bytes (drop p r)) same_length same_byte))
    where
      same_length : length (take t.bytes (drop p s)) ≡ length (take t.bytes (drop p r))
      same_length = simp (length-take, length-drop) (omega arith)

      same_byte : (i : ℕ) → i < length (take t.bytes (drop p s)) → get_or (take t.bytes (drop p s)) i 0 ≡ get_or (take t.bytes (drop p r)) i 0
      same_byte i l =
          let k : i < t.bytes = omega (arith, length-take t.bytes (drop p s)) in
          rw (get_or-take t.bytes (drop p s) i 0 k, get_or-take t.bytes (drop p r) i 0 k, get_or-drop p s i 0, get_or-drop p r i 0) (h (p + i) (omega arith) (omega arith))

  -- A WRITE LEAVES AN ELEMENT APART FROM IT alone.
  pub apart-kept : (first₂ : Bool) (p₂ : ℕ) (t₂ : Shape) (mask₂ : ℕ) (z : ℤ) (s : List ℕ) → (p + t.bytes ≤ p₂) ⊎ (p₂ + t₂.bytes ≤ p)
      → raw_at first p t mask (written first₂ p₂ t₂ mask₂ z s) ≡ raw_at first p t mask s
  apart-kept first₂ p₂ t₂ mask₂ z s o =
      reads-alone (written first₂ p₂ t₂ mask₂ z s) s (length-kept first₂ p₂ t₂ mask₂ z s)
      (λ i a b. bytes-kept first₂ p₂ t₂ mask₂ z s i (⊎_elim {C = (i < p₂) ⊎ (p₂ + t₂.bytes ≤ i)} (λ h. inl (omega arith)) (λ h. inr (omega arith)) o))

-- ---- a raw number that is read is below 2^32 in size
typed-small : (s : Bool) (w n : ℕ) → w ≤ 4 → n < 256 ^ w → nat_abs (typed s w n) < 2 ^ 32
typed-small false w n l h = omega (arith, power_le w l)
typed-small true w n l h = go (ltb n (256 ^ w / 2)) refl
  where
    go : (b : Bool) → ltb n (256 ^ w / 2) ≡ b → nat_abs (cond b (pos n) (pos n -ℤ pos (256 ^ w))) < 2 ^ 32
    go true e = let k = ltb-true n (256 ^ w / 2) e in omega (arith, power_le w l)
    go false e = rw (down w n h) (let k = ltb-false n (256 ^ w / 2) e in omega (arith, power_le w l))

of-small : (t : Shape) (m n : ℕ) → t.bytes ≤ 4 → n < 256 ^ t.bytes → nat_abs (raw_of t m n) < 2 ^ 32
unfolding raw_of
of-small t zero n l h = typed-small t.signed t.bytes n l h
of-small t (suc m) n l h = omega (arith, masked-le n (suc m), power_le t.bytes l)

pub raw-small : (first : Bool) (p : ℕ) (t : Shape) (mask : ℕ) (s : List ℕ) → t.bytes ≤ 4 → ((i : ℕ) → get_or s i 0 < 256) → nat_abs (raw_at first p t mask s) < 2 ^ 32
unfolding raw_at
raw-small first p t mask s l b = go (is_inside p t.bytes s) refl
  where
    go : (x : Bool) → is_inside p t.bytes s ≡ x → nat_abs (cond x (raw_of t mask (stored_at first p t.bytes s)) (pos 0)) < 2 ^ 32
    go true e = of-small t mask (stored_at first p t.bytes s) l (stored-lt first p t.bytes s b (leb-true (p + t.bytes) (length s) e))
    go false e = omega arith
