-- `fraction::fraction::fraction_of` meets its contract. Assumes nothing.
use mathlib.Core.Path.{◌≡◌, sym, ap, ap₂, ◌∙◌}
use mathlib.Core.Bool.{Bool, ◌&&◌}
use Prim.Native.Nat.{ℕ}
use native.Mathlib.Omega.{arith}
use borrow.Author.Tests.{ltb-true}
use lib.Dec.{ltb}
use lib.IntN.{ℤ, nat_abs}
use mir.Syntax.{w64}
use mir.Val.{SFits}
use Rattle.cell.proofs.Signed.{back, is-param, is-abs}
use Rattle.convert.specs.declared.method.Coefficients.{Coefficients}
use Rattle.convert.specs.Whole.{all_small}
use Rattle.convert.specs.Fraction.{fraction, fraction_of}
use Rattle.convert.specs.Told.{held}
use Rattle.convert.proofs.Wholes.{left-true, right-true, small-facts}
use Rattle.fraction.proofs.fraction.fraction_of.Goals as goal

-- what the test says of the parameters
test : (k : Coefficients) (z : ℤ) (b : Bool) (n : ℕ) → SFits w64 z → b ≡ all_small k → n ≡ nat_abs (back z) → (b && ltb n 4294967296) ≡ (all_small k && ltb (nat_abs z) 4294967296)
test k z b n f e g = ap₂ (λ (x : Bool) (m : ℕ). x && ltb m 4294967296) e (g ∙ is-abs (is-param f))

pub exact-requires : goal.exact-requires
exact-requires c =
    let a = c in
    let s = all_small a.args.k in
    let r = ltb (nat_abs a.args.raw) 4294967296 in
    let h = sym (test c.args.k c.args.raw c.all_small.result c.size.result c.ranges.raw c.all_small.ensures c.size.ensures) ∙ c.if-all_small-size.true in
    record { small = small-facts a.args.k (left-true s r h); raw_bound = omega (arith, is-abs (is-param c.ranges.raw), ltb-true (nat_abs a.args.raw) 4294967296 (right-true s r h)) }

pub returns-then-all_small-size : goal.returns-then-all_small-size
unfolding fraction_of
returns-then-all_small-size c =
    let a = c in
    c.exact.ensures ∙ ap (λ (z : ℤ). held (fraction a.args.k z)) (is-param c.ranges.raw).same ∙ rw (sym (test c.args.k c.args.raw c.all_small.result c.size.result c.ranges.raw c.all_small.ensures c.size.ensures) ∙ c.if-all_small-size.true)

pub returns : goal.returns
unfolding fraction_of
returns c = rw (sym (test c.args.k c.args.raw c.all_small.result c.size.result c.ranges.raw c.all_small.ensures c.size.ensures) ∙ c.if-all_small-size.false)
