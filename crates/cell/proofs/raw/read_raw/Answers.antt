-- `cell::raw::read_raw` meets its contract. Assumes nothing.
use mathlib.Core.Path.{ap, ◌∙◌}
use Rattle.cell.specs.declared.kind.Shape.{Shape}
use Rattle.cell.specs.Raw.{raw_at}
use Rattle.cell.proofs.Shapes.{bytes-of}
use Rattle.cell.proofs.Signed.{returned}
use Rattle.cell.proofs.Raws.{read-in, read_out, inside-le}
use Rattle.cell.proofs.raw.read_raw.Goals as goal

pub stored_at-stored-requires : goal.stored_at-stored-requires
stored_at-stored-requires c =
    let a = c.args in
    let t = c.shape_of-t in
    (bytes-of a.kind t.result t.ensures, inside-le a.at t.result.bytes a.image.now c.is_inside.ensures c.if-is_inside.true)

pub raw_of-requires : goal.raw_of-requires
raw_of-requires c =
    let t = c.shape_of-t in
    bytes-of c.args.kind t.result t.ensures

pub returns-then-is_inside : goal.returns-then-is_inside
returns-then-is_inside c =
    let a = c.args in
    let t = c.shape_of-t in
    returned c.raw_of.result c.raw_of.type_inv ∙ c.raw_of.ensures
    ∙ read-in a.first a.at t.result a.mask a.image.now c.is_inside.ensures c.if-is_inside.true c.stored_at-stored.ensures
    ∙ ap (λ (x : Shape). raw_at a.first a.at x a.mask a.image.now) t.ensures

pub returns : goal.returns
returns c =
    let a = c.args in
    let t = c.shape_of-t in
    read_out a.first a.at t.result a.mask a.image.now c.is_inside.ensures c.if-is_inside.false
    ∙ ap (λ (x : Shape). raw_at a.first a.at x a.mask a.image.now) t.ensures
