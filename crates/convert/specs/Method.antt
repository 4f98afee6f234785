-- Coefficients: four decimals made whole.
use Rattle.std.specs.Prelude.{Bool, not, cond, ◌&&◌, ℕ, ◌*◌, ◌-◌, ◌^◌, max, ℤ, pos, neg_ℤ, ◌*ℤ◌}
use Rattle.number.specs.Answer.{Answer, given, refused}
use Rattle.number.specs.Decimal.{Scaled}
use Rattle.convert.specs.declared.method.Coefficients.{Coefficients}
use Rattle.number.specs.Signed.{signed_of}
use Rattle.convert.specs.Whole.{eq_z, all_small}
use Rattle.convert.specs.Limit.{formed}

-- b·f = c·e
abbrev pub same_products : Coefficients → Bool
same_products k = eq_z (k.b *ℤ k.f) (k.c *ℤ k.e)

-- "10: b·f = c·e, or one of the four above 10^9"
unfoldable pub sound_method : Coefficients → Bool
sound_method k = all_small k && not (same_products k)

unfoldable pub judged_method : Coefficients → Answer Coefficients
judged_method k = cond (sound_method k) (given k) (refused 10)

-- A decimal times 10^t.
abbrev pub times_ten : ℕ → Scaled → ℤ
times_ten t d = signed_of d.negative (d.whole * 10 ^ (t - d.tens))

-- The smallest power of ten that makes all four whole. (Each decimal stands over the smallest power that does.)
abbrev pub common : Scaled → Scaled → Scaled → Scaled → ℕ
common b c e f = max (max b.tens c.tens) (max e.tens f.tens)

abbrev pub four : ℤ → ℤ → ℤ → ℤ → Coefficients
four b c e f = record { b = b; c = c; e = e; f = f }

abbrev pub rat_func_at : ℕ → Scaled → Scaled → Scaled → Scaled → Coefficients
rat_func_at t b c e f = four (times_ten t b) (times_ten t c) (times_ten t e) (times_ten t f)

-- "RAT_FUNC: INT = (aP²+bP+c)/(dP²+eP+f); a and d must be 0. The four others are made whole at the smallest common power of ten."
-- (A decimal that no text can write is no coefficient.)
unfoldable pub rat_func : Scaled → Scaled → Scaled → Scaled → Answer Coefficients
rat_func b c e f =
    cond (formed b && formed c && formed e && formed f) (judged_method (rat_func_at (common b c e f) b c e f)) (refused 10)

-- "LINEAR, PHYS = a·INT + b, has b, c, e, f of 10^t, −B, 0, A, where A and B are a and b times 10^t."
abbrev pub linear_at : ℕ → Scaled → Scaled → Coefficients
linear_at t a b = four (pos (10 ^ t)) (neg_ℤ (times_ten t b)) (pos 0) (times_ten t a)

unfoldable pub linear_of : Scaled → Scaled → Answer Coefficients
linear_of a b = cond (formed a && formed b) (judged_method (linear_at (max a.tens b.tens) a b)) (refused 10)

-- "IDENTICAL and NO_COMPU_METHOD are 1, 0, 0, 1."
abbrev pub identical_of : Coefficients
identical_of = four (pos 1) (pos 0) (pos 0) (pos 1)
