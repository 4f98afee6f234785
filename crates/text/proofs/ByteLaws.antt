-- What the tests on bytes say, by the branches that the code takes.
use Prim.Native.Nat.{ℕ, zero, suc, ◌+◌, ◌-◌, ◌<◌, ◌≤◌}
use mathlib.Core.Path.{◌≡◌, refl, sym, ◌∙◌, ap}
use mathlib.Core.List.{List}
use mathlib.Core.Bool.{Bool, true, false, ◌&&◌, and-false, and-true, and_assoc}
use native.Mathlib.Omega.{arith}
use borrow.Author.Tests.{eq-eqb, ne_eqb}
use borrow.Author.Rules.{rules}
use lib.ListN.{length, get_or-eq_default}
use lib.Dec.{eqb, ltb}
use Rattle.text.specs.Bytes.{byte, pair_at, same_for}

-- what a call ensures of its flag, and what the flag is
pub via : {A : Type 0} {b x t : A} → b ≡ x → b ≡ t → x ≡ t
via p q = sym p ∙ q

pub byte_past : (s : List ℕ) (k : ℕ) → length s ≤ k → 0 ≡ byte s k
byte_past s k h = sym (get_or-eq_default s 0 h)

pub pair-other : (s : List ℕ) (k a b : ℕ) → (byte s k ≡ a → ⊥) → false ≡ pair_at s k a b
unfolding pair_at
pair-other s k a b p = rw (ne_eqb (byte s k) a p, and-false (ltb (k + 1) (length s)))

-- one byte more at the end
pub same-last : (m : ℕ) (s : List ℕ) (k : ℕ) (w : List ℕ) (j : ℕ) → same_for (suc m) s k w j ≡ (same_for m s k w j && eqb (byte s (k + m)) (byte w (j + m)))
unfolding same_for
same-last zero s k w j = let p : k + 0 ≡ k = omega arith in let q : j + 0 ≡ j = omega arith in rw (p, q, and-true (eqb (byte s k) (byte w j)))
same-last (suc m) s k w j =
    let p : suc k + m ≡ k + suc m = omega arith in
    let q : suc j + m ≡ j + suc m = omega arith in
    rw (same-last m s (suc k) w (suc j), p, q, and_assoc (eqb (byte s k) (byte w j)) (same_for m s (suc k) w (suc j)) (eqb (byte s (k + suc m)) (byte w (j + suc m))))

-- the loop backward from the last of n bytes: all that is asked of them, b, is whether the first i are the same
pub record SameBack (s : List ℕ) (k : ℕ) (w : List ℕ) (j n : ℕ) (b : Bool) (i : ℕ) : Type 0 where
  pub within : i ≤ n
  pub same : same_for i s k w j ≡ b

module _ (s : List ℕ) (k : ℕ) (w : List ℕ) (j n : ℕ) where
  pub same_start : SameBack s k w j n (same_for n s k w j) n
  same_start = record { within = omega arith; same = refl }

  module _ (b : Bool) (i : ℕ) (h : SameBack s k w j n b i) where
    module _ (lt : 0 < i) where
      step : b ≡ (same_for (i - 1) s k w j && eqb (byte s (k + (i - 1))) (byte w (j + (i - 1))))
      step = let m : i ≡ suc (i - 1) = omega arith in sym h.same ∙ ap (λ z. same_for z s k w j) m ∙ same-last (i - 1) s k w j

      pub same-on : (c d : ℕ) → c ≡ byte s (k + (i - 1)) → d ≡ byte w (j + (i - 1)) → c ≡ d → SameBack s k w j n b (i - 1)
      same-on c d p q e = record { within = omega (arith, h.within); same = sym (step ∙ rw (eq-eqb (byte s (k + (i - 1))) (byte w (j + (i - 1))) (sym p ∙ e ∙ q), and-true (same_for (i - 1) s k w j))) }

      pub same_differs : (c d : ℕ) → c ≡ byte s (k + (i - 1)) → d ≡ byte w (j + (i - 1)) → (c ≡ d → ⊥) → false ≡ b
      same_differs c d p q e = sym (step ∙ rw (ne_eqb (byte s (k + (i - 1))) (byte w (j + (i - 1))) (λ x. e (p ∙ x ∙ sym q)), and-false (same_for (i - 1) s k w j)))

      first : b ≡ (eqb (byte s k) (byte w j) && same_for (i - 1) s (suc k) w (suc j))
      unfolding same_for
      first = let m : i ≡ suc (i - 1) = omega arith in sym h.same ∙ ap (λ z. same_for z s k w j) m

      pub same-other : (c d : ℕ) → c ≡ byte s k → d ≡ byte w j → (c ≡ d → ⊥) → false ≡ b
      same-other c d p q e = sym (first ∙ rw (ne_eqb (byte s k) (byte w j) (λ x. e (p ∙ x ∙ sym q))))

    pub same-all : i ≤ 0 → true ≡ b
    unfolding same_for
    same-all le = let z : i ≡ 0 = omega arith in rw z at h.same

pub ruleset sames = (same_start, same-on, same_differs, same-all, rules)
