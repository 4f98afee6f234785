-- Whole numbers with a sign, and the four coefficients.
use Rattle.std.specs.Prelude.{Bool, false, ◌&&◌, ◌≤◌, eqb, leb, ℤ, pos, negsuc, nat_abs}
use Rattle.convert.specs.declared.method.Coefficients.{Coefficients}

-- Two whole numbers are the same.
abbrev pub eq_z : ℤ → ℤ → Bool
eq_z (pos a) (pos b) = eqb a b
eq_z (pos a) (negsuc b) = false
eq_z (negsuc a) (pos b) = false
eq_z (negsuc a) (negsuc b) = eqb a b

-- "Each of the four is at most 10^9 in size."
abbrev pub small : ℤ → Bool
small z = leb (nat_abs z) 1000000000

unfoldable pub all_small : Coefficients → Bool
all_small k = small k.b && small k.c && small k.e && small k.f

-- The same as facts, which the code's arithmetic rests on.
pub record Small (k : Coefficients) : Type 0 where
  pub b : nat_abs k.b ≤ 1000000000
  pub c : nat_abs k.c ≤ 1000000000
  pub e : nat_abs k.e ≤ 1000000000
  pub f : nat_abs k.f ≤ 1000000000
