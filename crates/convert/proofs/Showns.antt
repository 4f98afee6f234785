-- What is shown of a line's value, by its state; and the value that a line holds is read back.
use mathlib.Core.Path.{◌≡◌, refl, sym, ap, ap₂, ◌∙◌}
use mathlib.Core.Bool.{true, false, ◌&&◌}
use Prim.Native.Nat.{ℕ, ◌≤◌}
use borrow.Author.Tests.{leb-true, ne_eqb}
use lib.Dec.{leb}
use lib.Ieee.{Float}
use lib.IntN.{ℤ, pos, nat_abs}
use Rattle.convert.specs.declared.fraction.Physical.{Physical}
use Rattle.convert.specs.Fraction.{Value, none, number, text}
use Rattle.convert.specs.Shown.{real, words, nothing, quotient, shown}
use Rattle.convert.specs.Told.{held, meant}
use Rattle.convert.proofs.Wholes.{left-true, right-true}

-- A LINE HOLDS its value.
pub meant-held : (v : Value) → meant (held v) ≡ v
meant-held none = refl
meant-held (number n d) = refl
meant-held (text a b) = refl

module _ (p : Physical) {m n : ℕ} (em : m ≡ nat_abs p.first) (en : n ≡ nat_abs p.second) where
  test : (leb m 9007199254740992 && leb n 9007199254740992) ≡ (leb (nat_abs p.first) 9007199254740992 && leb (nat_abs p.second) 9007199254740992)
  test = ap₂ (λ (x y : ℕ). leb x 9007199254740992 && leb y 9007199254740992) em en

  pub shown-real : {x : Float} → p.state ≡ 1 → (leb m 9007199254740992 && leb n 9007199254740992) ≡ true → x ≡ quotient p.first p.second → real x ≡ shown (meant p)
  unfolding shown
  shown-real s h e = rw (s, sym test ∙ h) (ap real e)

  pub shown-inexact : p.state ≡ 1 → (leb m 9007199254740992 && leb n 9007199254740992) ≡ false → nothing ≡ shown (meant p)
  unfolding shown
  shown-inexact s h = rw (s, sym test ∙ h)

  pub shown-words : p.state ≡ 2 → words m n ≡ shown (meant p)
  unfolding shown
  shown-words s = rw s (ap₂ words em en)

pub shown-none : (p : Physical) → (p.state ≡ 1 → ⊥) → (p.state ≡ 2 → ⊥) → nothing ≡ shown (meant p)
unfolding shown
shown-none p h k = rw (ne_eqb p.state 1 h, ne_eqb p.state 2 k)

-- a line that holds a text, from its two places
pub text-line : {a b : ℤ} {m n : ℕ} → a ≡ pos m → b ≡ pos n → ◌≡◌ {A = Physical} (record { state = 2; first = a; second = b }) (held (text m n))
text-line p q = λ i. record { state = 2; first = p i; second = q i }
