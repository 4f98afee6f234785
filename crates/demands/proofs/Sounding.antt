-- A method's coefficients, as a sentence and as they are judged: the same.
--     method-keeps     a method has its coefficients exactly if it keeps the rule
use Prim.Native.Nat.{ℕ}
use mathlib.Core.Path.{◌≡◌, refl}
use mathlib.Core.Bool.{Bool, true, false, cond, not, ◌&&◌, false≢true}
use mathlib.Core.Logic.{◌↔◌}
use borrow.Author.Tests.{not-true, le-leb, eqb-true}
use lib.Dec.{eqb}
use lib.IntN.{nat_abs, ◌*ℤ◌}
use Rattle.text.proofs.Within.{and_left, and_right}
use Rattle.number.specs.Answer.{given, refused}
use Rattle.number.specs.Decimal.{Scaled, Form}
use Rattle.number.specs.Form.{is_given}
use Rattle.convert.specs.Limit.{formed}
use Rattle.convert.specs.Method.{identical_of, same_products, sound_method, judged_method, rat_func, linear_of}
use Rattle.convert.specs.Whole.{eq_z, all_small, Small}
use Rattle.convert.specs.declared.method.Coefficients.{Coefficients}
use Rattle.convert.proofs.Limits.{formed-facts}
use Rattle.convert.proofs.Wholes.{small-facts}
use Rattle.rows.specs.Codes.{LINEAR, RAT-FUNC}
use Rattle.rows.specs.Sections.{method}
use Rattle.rows.specs.Slots.{conversion_type, coeff_b, coeff_c, coeff_e, coeff_f, linear_a, linear_b}
use Rattle.grammar.specs.Move.{View}
use Rattle.keeps.proofs.Bits.{and}
use Rattle.methods.specs.Methods.{decimal_at, coefficients}
use Rattle.methods.specs.Methods as methods
use Rattle.demands.specs.Conversions.{FourKeep, rat_func_four, linear_four, MethodKeeps}
use Rattle.demands.proofs.Equals.{eq_z-is, eq_z-not}

-- ---- decimals
form-formed : (d : Scaled) → Form d → formed d ≡ true
unfolding formed
form-formed d f = and (le-leb d.whole 9999999999 f.whole_most) (le-leb d.tens 6 f.tens_most)

-- ---- four coefficients
facts-small : (k : Coefficients) → Small k → all_small k ≡ true
unfolding all_small
facts-small k s =
    and (and (and (le-leb (nat_abs k.b) 1000000000 s.b) (le-leb (nat_abs k.c) 1000000000 s.c)) (le-leb (nat_abs k.e) 1000000000 s.e)) (le-leb (nat_abs k.f) 1000000000 s.f)

sound-keeps : (k : Coefficients) → sound_method k ≡ true → FourKeep k
unfolding sound_method
sound-keeps k h =
    record { small = small-facts k (and_left (all_small k) (not (same_products k)) h); apart = eq_z-not (k.b *ℤ k.f) (k.c *ℤ k.e) (not-true (same_products k) (and_right (all_small k) (not (same_products k)) h)) }

keeps-sound : (k : Coefficients) → FourKeep k → sound_method k ≡ true
unfolding sound_method
keeps-sound k f = and (facts-small k f.small) (on (same_products k) refl)
  where
    on : (b : Bool) → eq_z (k.b *ℤ k.f) (k.c *ℤ k.e) ≡ b → not b ≡ true
    on true e = absurd (f.apart (eq_z-is (k.b *ℤ k.f) (k.c *ℤ k.e) e))
    on false e = refl

-- what is judged so is given exactly if it is formed and keeps the rule
judged-keeps : (t : Bool) (k : Coefficients) → is_given (cond t (judged_method k) (refused 10)) ≡ true → (t ≡ true) × FourKeep k
unfolding judged_method
judged-keeps true k = go (sound_method k) refl
  where
    go : (b : Bool) → sound_method k ≡ b → is_given (cond b (given k) (refused 10)) ≡ true → (◌≡◌ {A = Bool} true true) × FourKeep k
    go true e h = (refl, sound-keeps k e)
    go false e h = absurd (false≢true h)
judged-keeps false k = λ h. absurd (false≢true h)

keeps-judged : (t : Bool) (k : Coefficients) → t ≡ true → FourKeep k → is_given (cond t (judged_method k) (refused 10)) ≡ true
unfolding judged_method
keeps-judged t k e f = rw (e, keeps-sound k f)

module _ (v : View) (i : ℕ) where
  abbrev at : ℕ → Scaled
  at = decimal_at v i

  given-keeps : is_given (coefficients v i) ≡ true → MethodKeeps v i
  unfolding coefficients methods.rat_func_at methods.linear_at rat_func linear_of
  given-keeps h = record { rat_func = by-rat; linear = by-linear }
    where
      by-rat : v.slots method i conversion_type ≡ RAT-FUNC → (Form (at coeff_b) × Form (at coeff_c) × Form (at coeff_e) × Form (at coeff_f)) × FourKeep (rat_func_four v i)
      by-rat e =
          let t = formed (at coeff_b) && formed (at coeff_c) && formed (at coeff_e) && formed (at coeff_f) in
          let r = judged-keeps t (rat_func_four v i) (rw e at h) in
          let c = and_left (formed (at coeff_b) && formed (at coeff_c) && formed (at coeff_e)) (formed (at coeff_f)) r.0 in
          let b = and_left (formed (at coeff_b) && formed (at coeff_c)) (formed (at coeff_e)) c in (
            (
              formed-facts (at coeff_b) (and_left (formed (at coeff_b)) (formed (at coeff_c)) b),
              formed-facts (at coeff_c) (and_right (formed (at coeff_b)) (formed (at coeff_c)) b),
              formed-facts (at coeff_e) (and_right (formed (at coeff_b) && formed (at coeff_c)) (formed (at coeff_e)) c),
              formed-facts (at coeff_f) (and_right (formed (at coeff_b) && formed (at coeff_c) && formed (at coeff_e)) (formed (at coeff_f)) r.0),
            ),
            r.1,
          )

      by-linear : v.slots method i conversion_type ≡ LINEAR → (Form (at linear_a) × Form (at linear_b)) × FourKeep (linear_four v i)
      by-linear e =
          let r = judged-keeps (formed (at linear_a) && formed (at linear_b)) (linear_four v i) (rw e at h) in
          ((formed-facts (at linear_a) (and_left (formed (at linear_a)) (formed (at linear_b)) r.0), formed-facts (at linear_b) (and_right (formed (at linear_a)) (formed (at linear_b)) r.0)), r.1)

  keeps_given : MethodKeeps v i → is_given (coefficients v i) ≡ true
  unfolding coefficients methods.rat_func_at methods.linear_at rat_func linear_of
  keeps_given k = by-linear (eqb (v.slots method i conversion_type) LINEAR) refl
    where
      by-rat : (b : Bool) → eqb (v.slots method i conversion_type) RAT-FUNC ≡ b → is_given (cond b (methods.rat_func_at v i) (given identical_of)) ≡ true
      by-rat true e =
          let r = k.rat_func (eqb-true (v.slots method i conversion_type) RAT-FUNC e) in
          keeps-judged _ (rat_func_four v i) (and (and (and (form-formed (at coeff_b) r.0.0) (form-formed (at coeff_c) r.0.1)) (form-formed (at coeff_e) r.0.2)) (form-formed (at coeff_f) r.0.3)) r.1
      by-rat false e = refl

      by-linear : (b : Bool) → eqb (v.slots method i conversion_type) LINEAR ≡ b
          → is_given (cond b (methods.linear_at v i) (cond (eqb (v.slots method i conversion_type) RAT-FUNC) (methods.rat_func_at v i) (given identical_of))) ≡ true
      by-linear true e =
          let r = k.linear (eqb-true (v.slots method i conversion_type) LINEAR e) in
          keeps-judged _ (linear_four v i) (and (form-formed (at linear_a) r.0.0) (form-formed (at linear_b) r.0.1)) r.1
      by-linear false e = by-rat (eqb (v.slots method i conversion_type) RAT-FUNC) refl

  pub method-keeps : (is_given (coefficients v i) ≡ true) ↔ MethodKeeps v i
  method-keeps = (given-keeps, keeps_given)
