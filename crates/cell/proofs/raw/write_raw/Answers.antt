-- `cell::raw::write_raw` meets its contract. Assumes nothing.
use mathlib.Core.Path.{◌≡◌, sym, ap, ◌∙◌}
use mathlib.Core.Bool.{Bool, true}
use Prim.Native.Nat.{ℕ}
use lib.IntN.{ℤ}
use mir.Syntax.{w64}
use mir.Val.{SFits}
use Rattle.cell.specs.declared.kind.Shape.{Shape}
use Rattle.cell.specs.Kind.{shape_of}
use Rattle.cell.specs.Raw.{fits_raw, stored_with, written}
use Rattle.cell.proofs.Shapes.{bytes-of}
use Rattle.cell.proofs.Signed.{back, is-param}
use Rattle.cell.proofs.Raws.{write-in, write-out, unfit-kept, inside-le}
use Rattle.cell.proofs.raw.write_raw.Goals as goal

-- the number fits the type that shape_of gave
fit : (t : Shape) (k m : ℕ) (z : ℤ) (b : Bool) → t ≡ shape_of k → SFits w64 z → b ≡ fits_raw (shape_of k) m (back z) → b ≡ true → fits_raw t m z ≡ true
fit t k m z b e f h i =
    ap (λ (x : Shape). fits_raw x m z) e ∙ ap (fits_raw (shape_of k) m) (sym (is-param f).same) ∙ sym h ∙ i

pub stored_at-old-requires : goal.stored_at-old-requires
stored_at-old-requires c =
    let t = c.shape_of-t in
    (bytes-of c.args.kind t.result t.ensures, inside-le c.args.at c.shape_of-t.result.bytes c.args.image.now c.is_inside.ensures c.if-is_inside.true)

pub stored_with-n-requires : goal.stored_with-n-requires
stored_with-n-requires c =
    let a = c in
    let t = c.shape_of-t in
    record {
      bytes_bound = bytes-of a.args.kind t.result t.ensures;
      raw_value = ap (fits_raw t.result a.args.mask) (is-param a.ranges.raw).same ∙ fit c.shape_of-t.result c.args.kind c.args.mask c.args.raw c.fits_raw.result c.shape_of-t.ensures c.ranges.raw c.fits_raw.ensures c.if-fits_raw.true;
    }

pub store_at-requires : goal.store_at-requires
store_at-requires c = inside-le c.args.at c.shape_of-t.result.bytes c.args.image.now c.is_inside.ensures c.if-is_inside.true

pub returns-then-is_inside : goal.returns-then-is_inside
returns-then-is_inside c =
    let d = c in
    let i = d in
    let a = i in
    let t = i.shape_of-t in
    c.store_at.ensures
    ∙ write-in a.args.first a.args.at t.result a.args.mask a.args.image.now a.args.raw (fit c.shape_of-t.result c.args.kind c.args.mask c.args.raw c.fits_raw.result c.shape_of-t.ensures c.ranges.raw c.fits_raw.ensures c.if-fits_raw.true) i.is_inside.ensures d.if-is_inside.true d.stored_at-old.ensures
    (d.stored_with-n.ensures ∙ ap (stored_with t.result a.args.mask d.stored_at-old.result) (is-param a.ranges.raw).same)
    ∙ ap (λ (x : Shape). written a.args.first a.args.at x a.args.mask a.args.raw a.args.image.now) t.ensures

pub returns-else-is_inside : goal.returns-else-is_inside
returns-else-is_inside c =
    let a = c.args in
    let t = c.shape_of-t in
    write-out a.first a.at t.result a.mask a.image.now a.raw c.is_inside.ensures c.if-is_inside.false
    ∙ ap (λ (x : Shape). written a.first a.at x a.mask a.raw a.image.now) t.ensures

pub returns-else-fits_raw : goal.returns-else-fits_raw
returns-else-fits_raw c =
    let s = c in
    let a = s.args in
    sym (unfit-kept a.first a.at (shape_of a.kind) a.mask a.image.now a.raw
    (ap (fits_raw (shape_of a.kind) a.mask) (sym (is-param s.ranges.raw).same) ∙ sym c.fits_raw.ensures ∙ c.if-fits_raw.false))
