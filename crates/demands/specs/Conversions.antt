-- "10: b·f = c·e, or one of the four above 10^9": what a COMPU_METHOD keeps.
use Rattle.std.specs.Prelude.{ℕ, max, ◌≡◌, ◌*ℤ◌}
use Rattle.number.specs.Decimal.{Form}
use Rattle.convert.specs.Method.{common, rat_func_at, linear_at}
use Rattle.convert.specs.Whole.{Small}
use Rattle.convert.specs.declared.method.Coefficients.{Coefficients}
use Rattle.rows.specs.Codes.{LINEAR, RAT-FUNC}
use Rattle.rows.specs.Sections.{method}
use Rattle.rows.specs.Slots.{conversion_type, coeff_b, coeff_c, coeff_e, coeff_f, linear_a, linear_b}
use Rattle.grammar.specs.Move.{View}
use Rattle.methods.specs.Methods.{decimal_at}

pub record FourKeep (k : Coefficients) : Type 0 where
  -- "Each of the four is at most 10^9 in size."
  pub small : Small k
  pub apart : k.b *ℤ k.f ≡ k.c *ℤ k.e → ⊥

module _ (v : View) (i : ℕ) where
  -- "The four others are made whole at the smallest common power of ten." (Second, whole-at-least-power)
  abbrev pub rat_func_four : Coefficients
  rat_func_four =
      rat_func_at (common (decimal_at v i coeff_b) (decimal_at v i coeff_c) (decimal_at v i coeff_e) (decimal_at v i coeff_f))
      (decimal_at v i coeff_b) (decimal_at v i coeff_c) (decimal_at v i coeff_e) (decimal_at v i coeff_f)

  -- "LINEAR .. has b, c, e, f of 10^t, −B, 0, A"
  abbrev pub linear_four : Coefficients
  linear_four = linear_at (max (decimal_at v i linear_a).tens (decimal_at v i linear_b).tens) (decimal_at v i linear_a) (decimal_at v i linear_b)

  -- method i: its decimals are such as a text can write, and its coefficients keep the rule; IDENTICAL and TAB_VERB ask nothing
  pub record MethodKeeps : Type 0 where
    pub rat_func : v.slots method i conversion_type ≡ RAT-FUNC
        → (Form (decimal_at v i coeff_b) × Form (decimal_at v i coeff_c) × Form (decimal_at v i coeff_e) × Form (decimal_at v i coeff_f)) × FourKeep rat_func_four
    pub linear : v.slots method i conversion_type ≡ LINEAR → (Form (decimal_at v i linear_a) × Form (decimal_at v i linear_b)) × FourKeep linear_four
