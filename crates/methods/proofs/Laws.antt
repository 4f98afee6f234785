-- Conversions of methods, by the branches that the code takes.
use Prim.Native.Nat.{ℕ, suc, ◌+◌, ◌-◌, ◌≤◌, ◌<◌}
use mathlib.Core.Path.{◌≡◌, refl, sym, ◌∙◌, ap}
use mathlib.Core.Bool.{Bool, true, false, cond}
use native.Mathlib.Omega.{arith}
use borrow.Author.Rules.{rules}
use borrow.Author.Tests.{eq-eqb, ne_eqb}
use Rattle.std.specs.Prelude.{Result, Ok, Err, is_err}
use Rattle.text.specs.Answer as text
use Rattle.number.specs.Answer.{given}
use Rattle.number.specs.Form.{is_given}
use Rattle.number.specs.Told.{scaled}
use Rattle.number.specs.declared.decimal.Decimal.{Decimal}
use Rattle.convert.specs.Method.{rat_func, linear_of, identical_of}
use Rattle.convert.specs.Told.{told_method}
use Rattle.convert.specs.declared.method.Coefficients.{Coefficients}
use Rattle.convert.specs.declared.method.NoConversion.{NoConversion}
use Rattle.rows.specs.Sections.{method}
use Rattle.rows.specs.Slots.{own_name, conversion_type, coeff_b, coeff_c, coeff_e, coeff_f, linear_a, linear_b}
use Rattle.grammar.specs.Move.{View}
use Rattle.methods.specs.Methods.{decimal_at, linear_at, rat_func_at, coefficients, converts_from, converts}

pub linear-is : (v : View) (i : ℕ) (a b : Decimal) (r : Result Coefficients NoConversion) → scaled a ≡ decimal_at v i linear_a → scaled b ≡ decimal_at v i linear_b → told_method r ≡ linear_of (scaled a) (scaled b) → told_method r ≡ linear_at v i
unfolding linear_at
linear-is v i a b r p q u = u ∙ rw (p, q)

pub rat-func-is : (v : View) (i : ℕ) (b c e f : Decimal) (r : Result Coefficients NoConversion) → scaled b ≡ decimal_at v i coeff_b → scaled c ≡ decimal_at v i coeff_c → scaled e ≡ decimal_at v i coeff_e → scaled f ≡ decimal_at v i coeff_f
    → told_method r ≡ rat_func (scaled b) (scaled c) (scaled e) (scaled f) → told_method r ≡ rat_func_at v i
unfolding rat_func_at
rat-func-is v i b c e f r p q u w z = z ∙ rw (p, q, u, w)

pub ruleset kinds = (linear-is, rat-func-is)

module _ (v : View) (i k : ℕ) (p : k ≡ v.slots method i conversion_type) where
  pub of-linear : (r : Result Coefficients NoConversion) → k ≡ 20 → told_method r ≡ linear_at v i → told_method r ≡ coefficients v i
  unfolding coefficients
  of-linear r h q = rw (← p, eq-eqb k 20 h, q)

  pub of-rat-func : (r : Result Coefficients NoConversion) → (k ≡ 20 → ⊥) → k ≡ 21 → told_method r ≡ rat_func_at v i → told_method r ≡ coefficients v i
  unfolding coefficients
  of-rat-func r h g q = rw (← p, ne_eqb k 20 h, eq-eqb k 21 g, q)

  pub of_other : (c : Coefficients) → (k ≡ 20 → ⊥) → (k ≡ 21 → ⊥) → c ≡ identical_of → given c ≡ coefficients v i
  unfolding coefficients
  of_other c h g q = rw (← p, ne_eqb k 20 h, ne_eqb k 21 g, q)

pub ruleset methods = (of-linear, of-rat-func, of_other, rules)

has-some : (r : Result Coefficients NoConversion) → is_err r ≡ false → is_given (told_method r) ≡ true
has-some (Ok c) h = refl
has-some (Err d) h = cc

has-none : (r : Result Coefficients NoConversion) → is_err r ≡ true → is_given (told_method r) ≡ false
has-none (Ok c) h = cc
has-none (Err d) h = refl

-- the methods from i on answer what all answer
pub record Converting (v : View) (i : ℕ) : Type 0 where
  pub within : i ≤ v.counts method
  pub same : converts_from (v.counts method - i) v i ≡ converts v

module _ (v : View) where
  pub converting-start : Converting v 0
  converting-start = let z : v.counts method - 0 ≡ v.counts method = omega arith in record { within = omega arith; same = ap (λ n. converts_from n v 0) z }

  pub converting-end : (n i : ℕ) → n ≡ v.counts method → Converting v i → n ≤ i → text.given tt ≡ converts v
  unfolding converts_from
  converting-end n i p q h = let z : v.counts method - i ≡ 0 = omega arith in rw z at q.same

  -- r is what `coefficients_of` gave
  module _ (n i : ℕ) (p : n ≡ v.counts method) (q : Converting v i) (h : i < n) (r : Result Coefficients NoConversion) (u : told_method r ≡ coefficients v i) where
    look : cond (is_given (told_method r)) (converts_from (v.counts method - (i + 1)) v (suc i)) (text.refused 10 (v.slots method i own_name)) ≡ converts v
    unfolding converts_from
    look = let z : v.counts method - i ≡ suc (v.counts method - (i + 1)) = omega arith in rw u (rw z at q.same)

    -- b is whether it is a refusal
    module _ (b : Bool) (e : b ≡ is_err r) where
      pub converting-on : b ≡ false → Converting v (i + 1)
      converting-on y = let z : suc i ≡ i + 1 = omega arith in record { within = omega arith; same = rw (has-some r (sym e ∙ y), z) at look }

      pub converting-none : (m : ℕ) → b ≡ true → m ≡ v.slots method i own_name → text.refused 10 m ≡ converts v
      converting-none m y w = rw w (rw (has-none r (sym e ∙ y)) at look)

pub ruleset convertings = (converting-start, converting-end, converting-on, converting-none, rules)
