-- `cell::raw::stored_with` meets its contract. Assumes nothing.
use mathlib.Core.Path.{ap, ◌∙◌}
use Prim.Native.Nat.{ℕ}
use native.Mathlib.Omega.{arith}
use Rattle.cell.specs.Mask.{fits_mask, inserted}
use Rattle.cell.specs.Sign.{bits_of}
use Rattle.cell.proofs.Signed.{is-param, is-abs}
use Rattle.cell.proofs.Raws.{stored-none, stored_some, fit-size, fit-mask}
use Rattle.cell.proofs.raw.stored_with.Goals as goal

pub bits_of-requires : goal.bits_of-requires
bits_of-requires c =
    let a = c in
    let t = a.args in
    record {
      width_bound = a.requires.bytes_bound;
      raw_bound = omega (arith, is-abs (is-param a.ranges.raw), fit-size t.t t.mask c.if-mask-eq0.true t.raw a.requires.raw_value);
    }

pub returns-then-mask-eq0 : goal.returns-then-mask-eq0
returns-then-mask-eq0 c =
    let a = c in
    let t = a.args in
    c.bits_of.ensures ∙ ap (bits_of t.t.bytes) (is-param a.ranges.raw).same ∙ stored-none t.t t.mask c.if-mask-eq0.true t.old t.raw

pub insert-requires : goal.insert-requires
insert-requires c =
    let a = c in
    let t = a.args in
    record {
      mask_nonzero = omega arith;
      mask_value = ap (λ (n : ℕ). fits_mask n t.mask) (c.size.ensures ∙ is-abs (is-param a.ranges.raw)) ∙ fit-mask t.t t.mask t.raw c.if-mask-eq0.false a.requires.raw_value;
    }

pub returns : goal.returns
returns c =
    let a = c in
    let t = a.args in
    c.insert.ensures ∙ ap (inserted t.old t.mask) (c.size.ensures ∙ is-abs (is-param a.ranges.raw)) ∙ stored_some t.t t.mask t.old t.raw c.if-mask-eq0.false
