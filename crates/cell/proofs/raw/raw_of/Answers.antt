-- `cell::raw::raw_of` meets its contract. Assumes nothing.
use mathlib.Core.Path.{◌≡◌, ap, ◌∙◌}
use native.Mathlib.Omega.{arith}
use lib.IntN.{pos}
use Prim.Native.Nat.{ℕ, ◌≤◌, ◌<◌, ◌^◌}
use Rattle.cell.specs.Mask.{masked}
use Rattle.cell.proofs.Masks.{masked-le}
use Rattle.cell.proofs.Signed.{returned, is-cast-le}
use Rattle.cell.proofs.Raws.{raw-none, raw-some}
use Rattle.cell.proofs.raw.raw_of.Goals as goal

small : (n s m : ℕ) → s < 2 ^ 32 → n ≡ masked s m → n ≤ 4294967295
small n s m h e = omega (arith, masked-le s m)

pub returns-then-mask-eq0 : goal.returns-then-mask-eq0
returns-then-mask-eq0 c =
    let t = c.args in
    returned c.value_of.result c.value_of.type_inv ∙ c.value_of.ensures ∙ raw-none t.t t.mask c.if-mask-eq0.true t.stored

pub overflow_cast-result : goal.overflow_cast-result
overflow_cast-result c = omega (arith, small c.extract.result c.args.stored c.args.mask (omega arith) c.extract.ensures)

pub returns : goal.returns
returns c =
    let t = c.args in
    (is-cast-le c.extract.result {m = 4294967295} (small c.extract.result c.args.stored c.args.mask (omega arith) c.extract.ensures) tt).same ∙ ap pos c.extract.ensures ∙ raw-some t.t t.mask t.stored c.if-mask-eq0.false
