-- `cell::sign::fits_type` meets its contract. Assumes nothing.
use mathlib.Core.Path.{◌≡◌, ◌∙◌}
use mathlib.Core.Bool.{true, false}
use Prim.Native.Nat.{ℕ, ◌/◌}
use lib.Dec.{leb, ltb}
use lib.IntN.{ℤ, pos, nat_abs}
use mir.Syntax.{w64}
use mir.Val.{SFits}
use Rattle.cell.proofs.Signed.{back, is-param, is-lit, is-test, is-abs}
use Rattle.cell.proofs.Types.{neg-signed, neg-unsigned, pos-signed, pos-unsigned}
use Rattle.cell.proofs.sign.fits_type.Goals as goal

-- the size that the code worked out
size_is : (m : ℕ) (z : ℤ) → SFits w64 z → m ≡ nat_abs (back z) → m ≡ nat_abs z
size_is m z f e = e ∙ is-abs (is-param f)

pub returns-then-signed : goal.returns-then-signed
returns-then-signed c =
    let d = c in
    let a = d in
    (λ i. leb (size_is d.size-m.result d.args.raw d.ranges.raw d.size-m.ensures i) (d.range-r.ensures i / 2))
    ∙ neg-signed a.args.width a.args.raw (is-test true (is-param a.ranges.raw) (is-lit (pos 0)) c.if-raw-lt0.true) ∙ rw c.if-signed.true

pub returns-then-raw-lt0 : goal.returns-then-raw-lt0
returns-then-raw-lt0 c =
    let a = c in
    neg-unsigned a.args.width a.args.raw (is-test true (is-param a.ranges.raw) (is-lit (pos 0)) c.if-raw-lt0.true) ∙ rw c.if-signed.false

pub returns-then-signed-2 : goal.returns-then-signed-2
returns-then-signed-2 c =
    let d = c in
    let a = d in
    (λ i. ltb (size_is d.size-m.result d.args.raw d.ranges.raw d.size-m.ensures i) (d.range-r.ensures i / 2))
    ∙ pos-signed a.args.width a.args.raw (is-test false (is-param a.ranges.raw) (is-lit (pos 0)) c.if-raw-lt0.false) ∙ rw c.if-signed-2.true

pub returns : goal.returns
returns c =
    let d = c in
    let a = d in
    (λ i. ltb (size_is d.size-m.result d.args.raw d.ranges.raw d.size-m.ensures i) (d.range-r.ensures i))
    ∙ pos-unsigned a.args.width a.args.raw (is-test false (is-param a.ranges.raw) (is-lit (pos 0)) c.if-raw-lt0.false) ∙ rw c.if-signed-2.false
