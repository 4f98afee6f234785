-- What a raw number means.
use Rattle.std.specs.Prelude.{cond, ◌&&◌, ℕ, zero, suc, ◌^◌, ltb, ℤ, pos, negsuc, neg_ℤ, ◌-ℤ◌, ◌*ℤ◌, nat_abs}
use Rattle.convert.specs.declared.method.Coefficients.{Coefficients}
use Rattle.convert.specs.Whole.{all_small}

-- "state (0 none, 1 number, 2 text), and the fraction's two numbers, or the text's first byte and the one past it"
pub data Value : Type 0 where
  none : Value
  number : ℤ → ℤ → Value
  text : ℕ → ℕ → Value

-- "both signs turned if the divisor is negative, not cancelled. Divisor 0: no value."
abbrev pub turned : ℤ → ℤ → Value
turned n (pos zero) = none
turned n (pos (suc d)) = number n (pos (suc d))
turned n (negsuc d) = number (neg_ℤ n) (pos (suc d))

-- "Then P = (f·INT − c)/(b − e·INT)"
unfoldable pub fraction : Coefficients → ℤ → Value
fraction k i = turned (k.f *ℤ i -ℤ k.c) (k.b -ℤ k.e *ℤ i)

-- Coefficients that no method has, and raw numbers that no element of at most 4 bytes holds, mean nothing.
unfoldable pub fraction_of : Coefficients → ℤ → Value
fraction_of k i = cond (all_small k && ltb (nat_abs i) (2 ^ 32)) (fraction k i) none
