-- `cell::raw::keeps_mask_rule` meets its contract. Assumes nothing.
use mathlib.Core.Path.{ap, ◌∙◌}
use mathlib.Core.Bool.{not, ◌&&◌}
use Prim.Native.Nat.{ℕ}
use lib.Dec.{ltb}
use Rattle.cell.specs.declared.kind.Shape.{Shape}
use Rattle.cell.specs.Mask.{mask_rule}
use Rattle.cell.proofs.Shapes.{bytes-of}
use Rattle.cell.proofs.raw.keeps_mask_rule.Goals as goal

pub range-requires : goal.range-requires
range-requires c = let t = c.shape_of-t in bytes-of c.args.kind t.result t.ensures

pub returns : goal.returns
unfolding mask_rule
returns c =
    let t = c.shape_of-t in
    let m = c.args.mask in
    ap (λ (n : ℕ). not t.result.signed && ltb 0 m && ltb m n) c.range.ensures ∙ ap (λ (x : Shape). mask_rule x m) t.ensures
