use mathlib.Core.Path.{ap, ◌∙◌}
use Prim.Native.Nat.{ℕ, ◌+◌, ◌-◌, ◌%◌, ◌/◌}
use lib.ListN.{set}
use Rattle.cell.proofs.Stored.{storing, stores, storing-step, storing-done}
use Rattle.cell.proofs.bytes.store_at.Goals as goal

pub loop-i-preserved : goal.loop-i-preserved
loop-i-preserved c =
    let t = c.args in
    let l = c.loop-i in
    ap (λ (k : ℕ). storing t.first t.at t.width (t.width - (l.i + 1)) (l.m / 256) (set l.s k (l.m % 256))) c.place-j.ensures
    ∙ storing-step t.first t.at t.width l.i l.m l.s c.loop-i-test.true ∙ l.invariant

pub returns : goal.returns
returns c =
    let a = c in
    let t = a.args in
    let l = c.loop-i in
    storing-done t.first t.at t.width l.i l.m l.s c.loop-i-test.false
    ∙ l.invariant ∙ stores t.first t.at t.width t.n t.s.now a.requires
