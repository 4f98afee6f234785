-- `cell::raw::fits_raw` meets its contract. Assumes nothing.
use mathlib.Core.Path.{ap, ◌∙◌}
use mathlib.Core.Bool.{true, false}
use Prim.Native.Nat.{ℕ}
use lib.IntN.{pos}
use Rattle.cell.specs.declared.kind.Shape.{Shape}
use Rattle.cell.specs.Kind.{shape_of}
use Rattle.cell.specs.Mask.{fits_mask}
use Rattle.cell.specs.Sign.{fits_type}
use Rattle.cell.proofs.Signed.{back, is-param, is-lit, is-test, is-abs}
use Rattle.cell.proofs.Shapes.{bytes-of}
use Rattle.cell.proofs.Raws.{fits-none, fits_neg, fits-pos}
use Rattle.cell.proofs.raw.fits_raw.Goals as goal

pub fits_type-requires : goal.fits_type-requires
fits_type-requires c = bytes-of c.args.kind c.shape_of-t.result c.shape_of-t.ensures

pub returns-then-mask-eq0 : goal.returns-then-mask-eq0
returns-then-mask-eq0 c =
    let a = c in
    let t = a.args in
    let s = shape_of t.kind in
    c.fits_type.ensures ∙ ap (λ (x : Shape). fits_type x.signed x.bytes (back t.raw)) c.shape_of-t.ensures
    ∙ ap (fits_type s.signed s.bytes) (is-param a.ranges.raw).same ∙ fits-none s t.mask c.if-mask-eq0.true t.raw

pub returns-then-raw-lt0 : goal.returns-then-raw-lt0
returns-then-raw-lt0 c =
    let a = c in
    let t = a.args in
    fits_neg (shape_of t.kind) t.mask t.raw c.if-mask-eq0.false (is-test true (is-param a.ranges.raw) (is-lit (pos 0)) c.if-raw-lt0.true)

pub returns : goal.returns
returns c =
    let a = c in
    let t = a.args in
    c.fits_mask.ensures ∙ ap (λ (n : ℕ). fits_mask n t.mask) (c.size.ensures ∙ is-abs (is-param a.ranges.raw))
    ∙ fits-pos (shape_of t.kind) t.mask t.raw c.if-mask-eq0.false (is-test false (is-param a.ranges.raw) (is-lit (pos 0)) c.if-raw-lt0.false)
