-- A byte with other bits under a mask, and two such masks that have no bit in common.
use mathlib.Core.Path.{◌≡◌, sym, ap, ap₂, ◌∙◌}
use Prim.Native.Nat.{ℕ, ◌-◌, ◌<◌}
use native.Mathlib.Nat.{mod-eq_of_lt}
use native.Mathlib.Omega.{arith}
use lib.Bits.{bit_and, bit_or, and_comm, or_comm, and_zero_r, or_zero_r, and_mask, and_le_l, and_self, or_lt, or_disjoint}
use Rattle.cell.proofs.Masks.{or-and, and_assoc, or_assoc, and-not}

-- x outside the bits m, and v inside
abbrev pub blended : ℕ → ℕ → ℕ → ℕ
blended m v x = bit_or (bit_and x (255 - m)) v

-- all the bits of a byte
pub and-all : (v : ℕ) → v < 256 → bit_and v 255 ≡ v
and-all v h = and_mask v 8 ∙ mod-eq_of_lt h

-- bits that are none of m's are bits outside m
and-rest : (v m : ℕ) → v < 256 → m < 256 → bit_and v m ≡ 0 → bit_and v (255 - m) ≡ v
and-rest v m h k e =
    let n = 255 - m in
    let all : bit_or n m ≡ 255 = or_disjoint n m (and-not 8 m k) ∙ omega arith in
    sym (or_zero_r (bit_and v n))
    ∙ ap₂ bit_or (and_comm v n) (sym e ∙ and_comm v m)
    ∙ sym (or-and n m v)
    ∙ ap (λ (x : ℕ). bit_and x v) all ∙ and_comm 255 v ∙ and-all v h

pub blended-lt : (m v x : ℕ) → v < 256 → x < 256 → blended m v x < 256
blended-lt m v x h k = or_lt 8 (bit_and x (255 - m)) v (omega (arith, and_le_l x (255 - m))) h

-- outside its bits a byte is as it was
pub blended-rest : (m v x : ℕ) → m < 256 → bit_and v m ≡ v → bit_and (blended m v x) (255 - m) ≡ bit_and x (255 - m)
blended-rest m v x l e =
    let n = 255 - m in
    or-and (bit_and x n) v n
    ∙ ap₂ bit_or (and_assoc x n n ∙ ap (bit_and x) (and_self n))
    (ap (λ (y : ℕ). bit_and y n) (sym e) ∙ and_assoc v m n ∙ ap (bit_and v) (and_comm m n ∙ and-not 8 m l) ∙ and_zero_r v)
    ∙ or_zero_r (bit_and x n)

-- two masks with no bit in common: "also with both masks in one byte"
module _ (m v n u x : ℕ) (lm : m < 256) (ln : n < 256) (lv : v < 256) (lu : u < 256) (vm : bit_and v m ≡ v) (un : bit_and u n ≡ u) (apart : bit_and m n ≡ 0) where
  one_way : (v m n : ℕ) → v < 256 → n < 256 → bit_and v m ≡ v → bit_and m n ≡ 0 → bit_and v (255 - n) ≡ v
  one_way v m n l k e a = and-rest v n l k (ap (λ (y : ℕ). bit_and y n) (sym e) ∙ and_assoc v m n ∙ ap (bit_and v) a ∙ and_zero_r v)

  twice : (m v n u : ℕ) → bit_and v (255 - n) ≡ v → blended n u (blended m v x) ≡ bit_or (bit_and x (bit_and (255 - m) (255 - n))) (bit_or v u)
  twice m v n u e =
      ap (λ (y : ℕ). bit_or y u) (or-and (bit_and x (255 - m)) v (255 - n) ∙ ap₂ bit_or (and_assoc x (255 - m) (255 - n)) e)
      ∙ or_assoc (bit_and x (bit_and (255 - m) (255 - n))) v u

  pub blended-swap : blended n u (blended m v x) ≡ blended m v (blended n u x)
  blended-swap =
      twice m v n u (one_way v m n lv ln vm apart)
      ∙ ap₂ (λ (y z : ℕ). bit_or (bit_and x y) z) (and_comm (255 - m) (255 - n)) (or_comm v u)
      ∙ sym (twice n u m v (one_way u n m lu lm un (and_comm n m ∙ apart)))
