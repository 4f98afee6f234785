-- The whole number nearest to a quotient.
use Rattle.std.specs.Prelude.{Bool, true, cond, ℕ, zero, suc, ◌+◌, ◌*◌, ◌/◌, ◌%◌, ltb, eqb, ℤ, pos, negsuc, neg_ℤ, ◌+ℤ◌, ◌*ℤ◌}
use Rattle.number.specs.Answer.{Answer, given, refused}
use Rattle.convert.specs.declared.method.Coefficients.{Coefficients}

-- A rule on halves: whether a quotient of q and a half goes up, away from zero.
abbrev pub Halves : Type 0
Halves = ℕ → Bool

-- "halves away from zero"
abbrev pub away : Halves
away q = true

-- "halves to the even neighbour": of q and q + 1 the one that is even
abbrev pub to_even : Halves
to_even q = eqb (q % 2) 1

-- The size n/d, rounded to the nearest whole number.
unfoldable pub rounded : Halves → ℕ → ℕ → ℕ
rounded up n d =
    cond (ltb (2 * (n % d)) d) (n / d)
    (cond (eqb (2 * (n % d)) d) (cond (up (n / d)) (n / d + 1) (n / d))
    (n / d + 1))

-- The same with signs.
unfoldable pub nearest : Halves → ℤ → ℤ → ℤ
nearest up (pos n) (pos d) = pos (rounded up n d)
nearest up (pos n) (negsuc d) = neg_ℤ (pos (rounded up n (suc d)))
nearest up (negsuc n) (pos d) = neg_ℤ (pos (rounded up (suc n) d))
nearest up (negsuc n) (negsuc d) = pos (rounded up (suc n) (suc d))

-- "INT is the exact quotient, rounded to the nearest whole number"; "17: no raw value exists"
abbrev pub rounded_quotient : Halves → ℤ → ℤ → Answer ℤ
rounded_quotient up n (pos zero) = refused 17
rounded_quotient up n (pos (suc d)) = given (nearest up n (pos (suc d)))
rounded_quotient up n (negsuc d) = given (nearest up n (negsuc d))

-- "INT = (aP²+bP+c)/(dP²+eP+f)" with a and d of 0, at P = p/q
unfoldable pub raw_for : Halves → Coefficients → ℤ → ℤ → Answer ℤ
raw_for up k p q = rounded_quotient up (k.b *ℤ p +ℤ k.c *ℤ q) (k.e *ℤ p +ℤ k.f *ℤ q)
