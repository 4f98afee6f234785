-- Whole numbers that the test calls the same are the same.
use mathlib.Core.Path.{◌≡◌, refl, sym, ◌∙◌, ap}
use mathlib.Core.Bool.{true, false, false≢true}
use borrow.Author.Tests.{eqb-true, eq-eqb}
use lib.IntN.{ℤ, pos, negsuc}
use Rattle.convert.specs.Whole.{eq_z}

eq_z-same : (z : ℤ) → eq_z z z ≡ true
eq_z-same (pos n) = eq-eqb n n refl
eq_z-same (negsuc n) = eq-eqb n n refl

pub eq_z-is : (a b : ℤ) → eq_z a b ≡ true → a ≡ b
eq_z-is (pos a) (pos b) h = ap pos (eqb-true a b h)
eq_z-is (pos a) (negsuc b) h = absurd (false≢true h)
eq_z-is (negsuc a) (pos b) h = absurd (false≢true h)
eq_z-is (negsuc a) (negsuc b) h = ap negsuc (eqb-true a b h)

pub eq_z-not : (a b : ℤ) → eq_z a b ≡ false → a ≡ b → ⊥
eq_z-not a b h e = false≢true (sym h ∙ ap (λ (z : ℤ). eq_z z b) e ∙ eq_z-same b)
