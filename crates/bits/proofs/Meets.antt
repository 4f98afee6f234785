-- How to see that two elements' bits don't meet: they share no byte, or they stand at one place in one way and their masks have no bit in common.
-- Assumes nothing.
use mathlib.Core.Path.{◌≡◌, sym, ap, ap₂, ◌∙◌}
use mathlib.Core.Bool.{Bool}
use mathlib.Core.Logic.{◌⊎◌, inl, inr}
use Prim.Native.Nat.{ℕ, suc, ◌+◌, ◌≤◌, ◌<◌}
use native.Mathlib.Omega.{arith}
use lib.Bits.{bit_and, and_zero_r}
use Rattle.bits.specs.Bits.{own_mask, bits_in}
use Rattle.bits.proofs.Digits.{rank, zero-digit, digit, digit_and, stands-in, stands-out}
use Rattle.bits.proofs.Images.{by_byte}

-- elements that share no byte, whatever their masks and orders
pub no-byte-shared : (f : Bool) (p w m : ℕ) (f' : Bool) (p' w' m' : ℕ) → (p + w ≤ p') ⊎ (p' + w' ≤ p) → (b : ℕ) → bit_and (bits_in f p w m b) (bits_in f' p' w' m' b) ≡ 0
unfolding bits_in
no-byte-shared f p w m f' p' w' m' o b =
    by_byte p w b (λ (x : ℕ). bit_and (bits_in f p w m x) (bits_in f' p' w' m' x) ≡ 0)
    (λ i h. ap (bit_and (bits_in f p w m (p + i))) (stands-out f' p' w' (own_mask w' m') (p + i) (outside i h o)) ∙ and_zero_r (bits_in f p w m (p + i)))
    (λ a. ap (λ (x : ℕ). bit_and x (bits_in f' p' w' m' b)) (stands-out f p w (own_mask w m) b a))
  where
    outside : (i : ℕ) → i < w → (p + w ≤ p') ⊎ (p' + w' ≤ p) → (p + i < p') ⊎ (p' + w' ≤ p + i)
    outside i h (inl l) = inl (omega arith)
    outside i h (inr l) = inr (omega arith)

-- "also with both masks in one byte": at one place, of one width and order, masks (which are not 0) may be compared as numbers
pub one_place : (first : Bool) (p w m n : ℕ) → bit_and (suc m) (suc n) ≡ 0 → (b : ℕ) → bit_and (bits_in first p w (suc m) b) (bits_in first p w (suc n) b) ≡ 0
unfolding bits_in
one_place first p w m n e b =
    by_byte p w b (λ (x : ℕ). bit_and (bits_in first p w (suc m) x) (bits_in first p w (suc n) x) ≡ 0)
    (λ i h. let j = rank first w i in
    ap₂ bit_and (stands-in first p w (suc m) i h) (stands-in first p w (suc n) i h)
    ∙ sym (digit_and (suc m) (suc n) j) ∙ ap (λ (x : ℕ). digit x j) e ∙ zero-digit j)
    (λ a. ap (λ (x : ℕ). bit_and x (bits_in first p w (suc n) b)) (stands-out first p w (suc m) b a))
