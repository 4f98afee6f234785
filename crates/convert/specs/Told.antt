-- What the code's answers say, case by case, with document 01's numbers.
use Rattle.std.specs.Prelude.{ℕ, cond, eqb, ℤ, pos, nat_abs, Result, Ok, Err}
use Rattle.number.specs.Answer.{Answer, given, refused}
use Rattle.convert.specs.declared.method.Coefficients.{Coefficients}
use Rattle.convert.specs.declared.method.NoConversion.{NoConversion}
use Rattle.convert.specs.declared.fraction.Physical.{Physical}
use Rattle.convert.specs.declared.fraction.Shown.{Shown}
use Rattle.convert.specs.declared.fraction.Shown.TheVariants as shown
use Rattle.convert.specs.declared.asked.RawRefusal.{RawRefusal}
use Rattle.convert.specs.declared.asked.RawRefusal.TheVariants as raw
use Rattle.convert.specs.Fraction.{Value, none, number, text}
use Rattle.convert.specs.Shown.{Display, real, words, nothing}

-- "10: b·f = c·e, or one of the four above 10^9"
abbrev pub no_conversion_number : NoConversion → ℕ
no_conversion_number e = 10

abbrev pub told_method : Result Coefficients NoConversion → Answer Coefficients
told_method (Ok k) = given k
told_method (Err e) = refused (no_conversion_number e)

-- How a line holds a value: "state (0 none, 1 number, 2 text), and the fraction's two numbers, or the text's first byte and the one past it, ..; zeros for none".
abbrev pub held : Value → Physical
held none = record { state = 0; first = pos 0; second = pos 0 }
held (number n d) = record { state = 1; first = n; second = d }
held (text a b) = record { state = 2; first = pos a; second = pos b }

-- The value that a line holds; any other state is none.
abbrev pub meant : Physical → Value
meant p = cond (eqb p.state 1) (number p.first p.second) (cond (eqb p.state 2) (text (nat_abs p.first) (nat_abs p.second)) none)

abbrev pub told_shown : Shown → Display
told_shown (shown.Real x) = real x
told_shown (shown.Words a b) = words a b
told_shown shown.Nothing = nothing

-- "15: asked value outside its form; 16: outside limits; 17: no raw value exists; 18: doesn't fit type or mask"
abbrev pub raw_refusal_number : RawRefusal → ℕ
raw_refusal_number raw.NoForm = 15
raw_refusal_number raw.OutsideLimits = 16
raw_refusal_number raw.NoRaw = 17
raw_refusal_number raw.NoFit = 18

abbrev pub told_raw : Result ℤ RawRefusal → Answer ℤ
told_raw (Ok z) = given z
told_raw (Err r) = refused (raw_refusal_number r)
