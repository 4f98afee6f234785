-- Conversions: "then conversions", 10 at the method's name. Methods that nothing uses are judged too.
use Rattle.std.specs.Prelude.{ℕ, zero, suc, cond, eqb, Result, Ok, Err}
use Rattle.text.specs.Answer as text
use Rattle.text.specs.declared.cursor.Refusal.{Refusal}
use Rattle.number.specs.Answer.{Answer, given}
use Rattle.number.specs.Decimal.{Scaled}
use Rattle.number.specs.Form.{is_given}
use Rattle.convert.specs.Method.{rat_func, linear_of, identical_of}
use Rattle.convert.specs.declared.method.Coefficients.{Coefficients}
use Rattle.rows.specs.Codes.{LINEAR, RAT-FUNC}
use Rattle.rows.specs.Sections.{method}
use Rattle.rows.specs.Slots.{own_name, conversion_type, coeff_b, coeff_c, coeff_e, coeff_f, linear_a, linear_b}
use Rattle.grammar.specs.Move.{View, decimal_slots}

-- the decimal in three slots of method i
abbrev pub decimal_at : View → ℕ → ℕ → Scaled
decimal_at v i k = decimal_slots v method i k

-- "LINEAR with COEFFS_LINEAR": a and b; "RAT_FUNC with COEFFS": b, c, e, f
unfoldable pub linear_at : View → ℕ → Answer Coefficients
linear_at v i = linear_of (decimal_at v i linear_a) (decimal_at v i linear_b)

unfoldable pub rat_func_at : View → ℕ → Answer Coefficients
rat_func_at v i = rat_func (decimal_at v i coeff_b) (decimal_at v i coeff_c) (decimal_at v i coeff_e) (decimal_at v i coeff_f)

-- the four coefficients of method i; IDENTICAL has 1, 0, 0, 1, and so has TAB_VERB, which asks none
unfoldable pub coefficients : View → ℕ → Answer Coefficients
coefficients v i =
    cond (eqb (v.slots method i conversion_type) LINEAR) (linear_at v i)
    (cond (eqb (v.slots method i conversion_type) RAT-FUNC) (rat_func_at v i)
    (given identical_of))

-- the first method from i on that has none is 10 at its name
unfoldable pub converts_from : ℕ → View → ℕ → text.Answer (Unit {0})
converts_from zero v i = text.given tt
converts_from (suc f) v i = cond (is_given (coefficients v i)) (converts_from f v (suc i)) (text.refused 10 (v.slots method i own_name))

abbrev pub converts : View → text.Answer (Unit {0})
converts v = converts_from (v.counts method) v 0

-- what the code answers
abbrev pub told_methods : Result (Unit {0}) Refusal → text.Answer (Unit {0})
told_methods (Ok u) = text.given tt
told_methods (Err r) = text.refused r.no r.place
