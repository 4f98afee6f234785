-- The raw number of an element: each case of the definitions, from what the code tests.
use mathlib.Core.Path.{◌≡◌, refl, sym, ap, ◌∙◌}
use mathlib.Core.Bool.{Bool, true, false, cond, ◌&&◌}
use mathlib.Core.List.{List}
use Prim.Native.Nat.{ℕ, zero, suc, ◌+◌, ◌^◌, ◌≤◌, ◌<◌}
use borrow.Author.Tests.{leb-true}
use lib.ListN.{length}
use lib.IntN.{ℤ, pos, negsuc, nat_abs}
use lib.Signed.{lt_z}
use Rattle.cell.specs.declared.kind.Shape.{Shape}
use Rattle.cell.specs.Mask.{masked, fits_mask, inserted}
use Rattle.cell.specs.Sign.{typed, fits_type, bits_of}
use Rattle.cell.specs.Bytes.{stored_at, with_stored}
use Rattle.cell.specs.Raw.{raw_of, fits_raw, stored_with, is_inside, raw_at, written}
use Rattle.cell.proofs.Types.{clash, not-below, fits_below}

-- ---- no mask
module _ (t : Shape) (m : ℕ) (e : m ≡ 0) where
  pub raw-none : (n : ℕ) → typed t.signed t.bytes n ≡ raw_of t m n
  unfolding raw_of
  raw-none n = rw e

  pub fits-none : (z : ℤ) → fits_type t.signed t.bytes z ≡ fits_raw t m z
  unfolding fits_raw
  fits-none z = rw e

  pub stored-none : (old : ℕ) (z : ℤ) → bits_of t.bytes z ≡ stored_with t m old z
  unfolding stored_with
  stored-none old z = rw e

  -- what fits is below the type's range in size
  pub fit-size : (z : ℤ) → fits_raw t m z ≡ true → nat_abs z < 256 ^ t.bytes
  fit-size z f = fits_below t.signed t.bytes z (fits-none z ∙ f)

-- ---- a mask
pub raw-some : (t : Shape) (m n : ℕ) → (m ≡ 0 → ⊥) → pos (masked n m) ≡ raw_of t m n
unfolding raw_of
raw-some t zero n h = absurd (h refl)
raw-some t (suc m) n h = refl

pub fits_neg : (t : Shape) (m : ℕ) (z : ℤ) → (m ≡ 0 → ⊥) → lt_z z (pos 0) ≡ true → false ≡ fits_raw t m z
unfolding fits_raw
fits_neg t zero z h k = absurd (h refl)
fits_neg t (suc m) (pos n) h k = not-below n k
fits_neg t (suc m) (negsuc n) h k = refl

pub fits-pos : (t : Shape) (m : ℕ) (z : ℤ) → (m ≡ 0 → ⊥) → lt_z z (pos 0) ≡ false → fits_mask (nat_abs z) m ≡ fits_raw t m z
unfolding fits_raw
fits-pos t zero z h k = absurd (h refl)
fits-pos t (suc m) (pos n) h k = refl
fits-pos t (suc m) (negsuc n) h k = clash k

pub stored_some : (t : Shape) (m old : ℕ) (z : ℤ) → (m ≡ 0 → ⊥) → inserted old m (nat_abs z) ≡ stored_with t m old z
unfolding stored_with
stored_some t zero old z h = absurd (h refl)
stored_some t (suc m) old z h = refl

pub fit-mask : (t : Shape) (m : ℕ) (z : ℤ) → (m ≡ 0 → ⊥) → fits_raw t m z ≡ true → fits_mask (nat_abs z) m ≡ true
unfolding fits_raw
fit-mask t zero z h f = absurd (h refl)
fit-mask t (suc m) (pos n) h f = f
fit-mask t (suc m) (negsuc n) h f = clash (sym f)

-- ---- reading and writing at a place
module _ (first : Bool) (p : ℕ) (t : Shape) (mask : ℕ) (s : List ℕ) where
  pub read-in : {b : Bool} {n : ℕ} → b ≡ is_inside p t.bytes s → b ≡ true → n ≡ stored_at first p t.bytes s → raw_of t mask n ≡ raw_at first p t mask s
  unfolding raw_at
  read-in e y h = rw (sym e ∙ y) (ap (raw_of t mask) h)

  pub read_out : {b : Bool} → b ≡ is_inside p t.bytes s → b ≡ false → pos 0 ≡ raw_at first p t mask s
  unfolding raw_at
  read_out e y = rw (sym e ∙ y)

  pub write-in : (z : ℤ) {b : Bool} {old n : ℕ} → fits_raw t mask z ≡ true → b ≡ is_inside p t.bytes s → b ≡ true
      → old ≡ stored_at first p t.bytes s → n ≡ stored_with t mask old z → with_stored first p t.bytes n s ≡ written first p t mask z s
  unfolding written
  write-in z f e y h k =
      rw (f, sym e ∙ y) (ap (λ (m : ℕ). with_stored first p t.bytes m s) (k ∙ ap (λ (o : ℕ). stored_with t mask o z) h))

  pub write-out : (z : ℤ) {b : Bool} → b ≡ is_inside p t.bytes s → b ≡ false → s ≡ written first p t mask z s
  unfolding written
  write-out z e y = rw (sym e ∙ y) (sym (never (fits_raw t mask z) _))
    where
      never : (f : Bool) (x : List ℕ) → cond (f && false) x s ≡ s
      never true x = refl
      never false x = refl

  -- a number that does not fit leaves every image as it was
  pub unfit-kept : (z : ℤ) → fits_raw t mask z ≡ false → written first p t mask z s ≡ s
  unfolding written
  unfit-kept z f = rw f

-- where the bytes are inside, they end inside
pub inside-le : (p w : ℕ) (s : List ℕ) {b : Bool} → b ≡ is_inside p w s → b ≡ true → p + w ≤ length s
inside-le p w s e y = leb-true (p + w) (length s) (sym e ∙ y)
