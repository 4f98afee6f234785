-- `fraction::fraction::exact` meets its contract. Assumes nothing.
use mathlib.Core.Path.{◌≡◌, refl, sym, ap, ◌∙◌}
use mathlib.Core.Bool.{true, false}
use Prim.Native.Nat.{zero, suc, ◌*◌, ◌+◌, ◌<◌, ◌^◌}
use lib.IntN.{ℤ, pos, negsuc, neg_ℤ, nat_abs, ◌-ℤ◌, ◌*ℤ◌}
use native.Mathlib.Nat.{le_of_lt}
use lib.Signed.{lt_z}
use Rattle.convert.specs.declared.method.Coefficients.{Coefficients}
use Rattle.convert.specs.declared.fraction.Physical.{Physical}
use Rattle.convert.specs.Whole.{Small}
use Rattle.convert.specs.Fraction.{turned, fraction}
use Rattle.convert.specs.Told.{held}
use Rattle.cell.proofs.Types.{clash, not-below}
use Rattle.cell.proofs.Signed.{Is, back, is-fits, is-back, is_read, is-lit, is_mul, is-sub, is-turn, is_zero, is-nonzero, is-test}
use Rattle.fraction.proofs.fraction.exact.Goals as goal

turned-neg : (n d : ℤ) → lt_z d (pos 0) ≡ true → held (turned n d) ≡ record { state = 1; first = neg_ℤ n; second = neg_ℤ d }
turned-neg n (pos d) h = not-below d h
turned-neg n (negsuc d) h = refl

turned-pos : (n d : ℤ) → (d ≡ pos 0 → ⊥) → lt_z d (pos 0) ≡ false → held (turned n d) ≡ record { state = 1; first = n; second = d }
turned-pos n (pos zero) z h = absurd (z refl)
turned-pos n (pos (suc d)) z h = refl
turned-pos n (negsuc d) z h = clash h

-- a line that holds a number, from its two numbers
pair : {n m d e : ℤ} → n ≡ m → d ≡ e → ◌≡◌ {A = Physical} (record { state = 1; first = n; second = d }) (record { state = 1; first = m; second = e })
pair p q = λ i. record { state = 1; first = p i; second = q i }

-- the fraction's two numbers, and what the code makes of them
abbrev N : Coefficients → ℤ → ℤ
N k i = k.f *ℤ i -ℤ k.c

abbrev D : Coefficients → ℤ → ℤ
D k i = k.b -ℤ k.e *ℤ i

module _ (k : Coefficients) (i : ℤ) (s : Small k) (r : nat_abs i < 2 ^ 32) where
  f·i : Is (back k.f *ℤ back i) (k.f *ℤ i) (1000000000 * 4294967296)
  f·i = is_mul (is_read k.f s.f tt) (is_read i (le_of_lt r) tt)

  e·i : Is (back k.e *ℤ back i) (k.e *ℤ i) (1000000000 * 4294967296)
  e·i = is_mul (is_read k.e s.e tt) (is_read i (le_of_lt r) tt)

  num : Is (back (back k.f *ℤ back i) -ℤ back k.c) (N k i) (1000000000 * 4294967296 + 1000000000)
  num = is-sub (is-back f·i tt) (is_read k.c s.c tt)

  den : Is (back k.b -ℤ back (back k.e *ℤ back i)) (D k i) (1000000000 + 1000000000 * 4294967296)
  den = is-sub (is_read k.b s.b tt) (is-back e·i tt)

pub overflow_mul-n : goal.overflow_mul-n
overflow_mul-n c = is-fits (f·i c.args.k c.args.raw c.requires.small c.requires.raw_bound) tt

pub overflow_sub-n : goal.overflow_sub-n
overflow_sub-n c = is-fits (num c.args.k c.args.raw c.requires.small c.requires.raw_bound) tt

pub overflow_mul-d : goal.overflow_mul-d
overflow_mul-d c = is-fits (e·i c.args.k c.args.raw c.requires.small c.requires.raw_bound) tt

pub overflow_sub-d : goal.overflow_sub-d
overflow_sub-d c = is-fits (den c.args.k c.args.raw c.requires.small c.requires.raw_bound) tt

pub returns-then-d-eq0 : goal.returns-then-d-eq0
unfolding fraction
returns-then-d-eq0 c =
    let z = is_zero (den c.args.k c.args.raw c.requires.small c.requires.raw_bound) tt c.if-d-eq0.true in
    sym (ap (λ (d : ℤ). held (turned (N c.args.k c.args.raw) d)) z)

pub overflow_sub-result : goal.overflow_sub-result
overflow_sub-result c =
    is-fits (is-turn (is-back (num c.args.k c.args.raw c.requires.small c.requires.raw_bound) tt)) tt

pub overflow_sub-result-then-d-lt0 : goal.overflow_sub-result-then-d-lt0
overflow_sub-result-then-d-lt0 c =
    is-fits (is-turn (is-back (den c.args.k c.args.raw c.requires.small c.requires.raw_bound) tt)) tt

pub returns-then-d-lt0 : goal.returns-then-d-lt0
unfolding fraction
returns-then-d-lt0 c =
    let n = is-back (num c.args.k c.args.raw c.requires.small c.requires.raw_bound) tt in
    let d = is-back (den c.args.k c.args.raw c.requires.small c.requires.raw_bound) tt in
    pair (is-back (is-turn n) tt).same (is-back (is-turn d) tt).same
    ∙ sym (turned-neg (N c.args.k c.args.raw) (D c.args.k c.args.raw) (is-test true d (is-lit (pos 0)) c.if-d-lt0.true))

pub returns : goal.returns
unfolding fraction
returns c =
    let n = num c.args.k c.args.raw c.requires.small c.requires.raw_bound in
    let d = den c.args.k c.args.raw c.requires.small c.requires.raw_bound in
    pair (is-back n tt).same (is-back d tt).same
    ∙ sym (turned-pos (N c.args.k c.args.raw) (D c.args.k c.args.raw) (is-nonzero d c.if-d-eq0.false) (is-test false (is-back d tt) (is-lit (pos 0)) c.if-d-lt0.false))
