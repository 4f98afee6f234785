-- Whole numbers as a ring: the laws that the library lacks.
use mathlib.Core.Path.{◌≡◌, sym, ap, ap₂, ◌∙◌}
use Prim.Native.Nat.{ℕ, zero, suc}
use lib.IntN.{ℤ, pos, negsuc, suc_ℤ, pred_ℤ, neg_ℤ, ◌+ℤ◌, ◌-ℤ◌, ◌*ℤ◌, +ℤ_idl, +ℤ_idr, +ℤ_assoc, +ℤ_comm, +ℤ_invl, +ℤ_invr, suc_ℤ-+ℤ, pred_ℤ-+ℤ, zero-*ℤ, suc_ℤ-*ℤ, pred_ℤ-*ℤ, *ℤ_comm, neg_ℤ-neg_ℤ}

swap : (x y z : ℤ) → x +ℤ y +ℤ z ≡ x +ℤ z +ℤ y
swap x y z = +ℤ_assoc x y z ∙ ap (◌+ℤ◌ x) (+ℤ_comm y z) ∙ sym (+ℤ_assoc x z y)

-- a number of which another takes nothing away is its opposite
opposite : (x y : ℤ) → x +ℤ y ≡ pos 0 → y ≡ neg_ℤ x
opposite x y h =
    sym (+ℤ_idl y) ∙ ap (λ (z : ℤ). z +ℤ y) (sym (+ℤ_invl x)) ∙ +ℤ_assoc (neg_ℤ x) x y ∙ ap (◌+ℤ◌ (neg_ℤ x)) h ∙ +ℤ_idr (neg_ℤ x)

pub equal : (x y : ℤ) → x +ℤ neg_ℤ y ≡ pos 0 → x ≡ y
equal x y h = sym (neg_ℤ-neg_ℤ x) ∙ ap neg_ℤ (sym (opposite x (neg_ℤ y) h)) ∙ neg_ℤ-neg_ℤ y

-- ---- a product of a sum
add-mul : (a b c : ℤ) → (a +ℤ b) *ℤ c ≡ a *ℤ c +ℤ b *ℤ c
add-mul a b c = by_sign a
  where
    more : (m : ℤ) → (m +ℤ b) *ℤ c ≡ m *ℤ c +ℤ b *ℤ c → (suc_ℤ m +ℤ b) *ℤ c ≡ suc_ℤ m *ℤ c +ℤ b *ℤ c
    more m ih =
        ap (λ (x : ℤ). x *ℤ c) (suc_ℤ-+ℤ m b) ∙ suc_ℤ-*ℤ (m +ℤ b) c ∙ ap (λ (x : ℤ). x +ℤ c) ih
        ∙ swap (m *ℤ c) (b *ℤ c) c ∙ sym (ap (λ (x : ℤ). x +ℤ b *ℤ c) (suc_ℤ-*ℤ m c))

    less : (m : ℤ) → (m +ℤ b) *ℤ c ≡ m *ℤ c +ℤ b *ℤ c → (pred_ℤ m +ℤ b) *ℤ c ≡ pred_ℤ m *ℤ c +ℤ b *ℤ c
    less m ih =
        ap (λ (x : ℤ). x *ℤ c) (pred_ℤ-+ℤ m b) ∙ pred_ℤ-*ℤ (m +ℤ b) c ∙ ap (λ (x : ℤ). x -ℤ c) ih
        ∙ swap (m *ℤ c) (b *ℤ c) (neg_ℤ c) ∙ sym (ap (λ (x : ℤ). x +ℤ b *ℤ c) (pred_ℤ-*ℤ m c))

    none : (pos 0 +ℤ b) *ℤ c ≡ pos 0 *ℤ c +ℤ b *ℤ c
    none = ap (λ (x : ℤ). x *ℤ c) (+ℤ_idl b) ∙ sym (ap (λ (x : ℤ). x +ℤ b *ℤ c) (zero-*ℤ c) ∙ +ℤ_idl (b *ℤ c))

    up : (n : ℕ) → (pos n +ℤ b) *ℤ c ≡ pos n *ℤ c +ℤ b *ℤ c
    up zero = none
    up (suc n) = more (pos n) (up n)

    down : (n : ℕ) → (negsuc n +ℤ b) *ℤ c ≡ negsuc n *ℤ c +ℤ b *ℤ c
    down zero = less (pos 0) none
    down (suc n) = less (negsuc n) (down n)

    by_sign : (a : ℤ) → (a +ℤ b) *ℤ c ≡ a *ℤ c +ℤ b *ℤ c
    by_sign (pos n) = up n
    by_sign (negsuc n) = down n

pub mul-add : (a b c : ℤ) → a *ℤ (b +ℤ c) ≡ a *ℤ b +ℤ a *ℤ c
mul-add a b c = *ℤ_comm a (b +ℤ c) ∙ add-mul b c a ∙ ap₂ ◌+ℤ◌ (*ℤ_comm b a) (*ℤ_comm c a)

-- ---- opposites
neg-mul : (a b : ℤ) → neg_ℤ a *ℤ b ≡ neg_ℤ (a *ℤ b)
neg-mul a b = opposite (a *ℤ b) (neg_ℤ a *ℤ b) (sym (add-mul a (neg_ℤ a) b) ∙ ap (λ (x : ℤ). x *ℤ b) (+ℤ_invr a) ∙ zero-*ℤ b)

pub mul-neg : (a b : ℤ) → a *ℤ neg_ℤ b ≡ neg_ℤ (a *ℤ b)
mul-neg a b = *ℤ_comm a (neg_ℤ b) ∙ neg-mul b a ∙ ap neg_ℤ (*ℤ_comm b a)

-- ---- a product of a product
mul_assoc : (a b c : ℤ) → a *ℤ b *ℤ c ≡ a *ℤ (b *ℤ c)
mul_assoc a b c = by_sign a
  where
    more : (m : ℤ) → m *ℤ b *ℤ c ≡ m *ℤ (b *ℤ c) → suc_ℤ m *ℤ b *ℤ c ≡ suc_ℤ m *ℤ (b *ℤ c)
    more m ih =
        ap (λ (x : ℤ). x *ℤ c) (suc_ℤ-*ℤ m b) ∙ add-mul (m *ℤ b) b c ∙ ap (λ (x : ℤ). x +ℤ b *ℤ c) ih ∙ sym (suc_ℤ-*ℤ m (b *ℤ c))

    less : (m : ℤ) → m *ℤ b *ℤ c ≡ m *ℤ (b *ℤ c) → pred_ℤ m *ℤ b *ℤ c ≡ pred_ℤ m *ℤ (b *ℤ c)
    less m ih =
        ap (λ (x : ℤ). x *ℤ c) (pred_ℤ-*ℤ m b) ∙ add-mul (m *ℤ b) (neg_ℤ b) c ∙ ap₂ ◌+ℤ◌ ih (neg-mul b c) ∙ sym (pred_ℤ-*ℤ m (b *ℤ c))

    none : pos 0 *ℤ b *ℤ c ≡ pos 0 *ℤ (b *ℤ c)
    none = ap (λ (x : ℤ). x *ℤ c) (zero-*ℤ b) ∙ zero-*ℤ c ∙ sym (zero-*ℤ (b *ℤ c))

    up : (n : ℕ) → pos n *ℤ b *ℤ c ≡ pos n *ℤ (b *ℤ c)
    up zero = none
    up (suc n) = more (pos n) (up n)

    down : (n : ℕ) → negsuc n *ℤ b *ℤ c ≡ negsuc n *ℤ (b *ℤ c)
    down zero = less (pos 0) none
    down (suc n) = less (negsuc n) (down n)

    by_sign : (a : ℤ) → a *ℤ b *ℤ c ≡ a *ℤ (b *ℤ c)
    by_sign (pos n) = up n
    by_sign (negsuc n) = down n

-- ---- (b·P + c)/(e·P + f) at P = (f·INT − c)/(b − e·INT) is INT·(b·f − c·e)/(b·f − c·e)
middle : (x y z : ℤ) → x +ℤ neg_ℤ y +ℤ (y +ℤ z) ≡ x +ℤ z
middle x y z =
    +ℤ_assoc x (neg_ℤ y) (y +ℤ z) ∙ ap (◌+ℤ◌ x) (sym (+ℤ_assoc (neg_ℤ y) y z) ∙ ap (λ (w : ℤ). w +ℤ z) (+ℤ_invl y) ∙ +ℤ_idl z)

module _ (b c e f i : ℤ) where
  abbrev pub N : ℤ
  N = f *ℤ i -ℤ c

  abbrev pub D : ℤ
  D = b -ℤ e *ℤ i

  abbrev pub Δ : ℤ
  Δ = b *ℤ f -ℤ c *ℤ e

  pub over-is : b *ℤ N +ℤ c *ℤ D ≡ i *ℤ Δ
  over-is =
      ap₂ ◌+ℤ◌
      (mul-add b (f *ℤ i) (neg_ℤ c) ∙ ap₂ ◌+ℤ◌ (sym (mul_assoc b f i)) (mul-neg b c))
      (mul-add c b (neg_ℤ (e *ℤ i)) ∙ ap₂ ◌+ℤ◌ (*ℤ_comm c b) (mul-neg c (e *ℤ i) ∙ ap neg_ℤ (sym (mul_assoc c e i))))
      ∙ middle (b *ℤ f *ℤ i) (b *ℤ c) (neg_ℤ (c *ℤ e *ℤ i))
      ∙ ap (◌+ℤ◌ (b *ℤ f *ℤ i)) (sym (neg-mul (c *ℤ e) i)) ∙ sym (add-mul (b *ℤ f) (neg_ℤ (c *ℤ e)) i) ∙ *ℤ_comm Δ i

  pub under-is : e *ℤ N +ℤ f *ℤ D ≡ Δ
  under-is =
      +ℤ_comm (e *ℤ N) (f *ℤ D)
      ∙ ap₂ ◌+ℤ◌
      (mul-add f b (neg_ℤ (e *ℤ i)) ∙ ap₂ ◌+ℤ◌ (*ℤ_comm f b) (mul-neg f (e *ℤ i)))
      (mul-add e (f *ℤ i) (neg_ℤ c) ∙ ap₂ ◌+ℤ◌ (sym (mul_assoc e f i) ∙ ap (λ (x : ℤ). x *ℤ i) (*ℤ_comm e f) ∙ mul_assoc f e i) (mul-neg e c ∙ ap neg_ℤ (*ℤ_comm e c)))
      ∙ middle (b *ℤ f) (f *ℤ (e *ℤ i)) (neg_ℤ (c *ℤ e))
