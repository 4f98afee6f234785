-- `cell::bytes::stored_at` meets its contract. Assumes nothing.
use mathlib.Core.Path.{sym, ap, ◌∙◌}
use Prim.Native.Nat.{ℕ, ◌+◌, ◌*◌}
use native.Mathlib.Omega.{arith}
use lib.ListN.{get_or}
use Rattle.cell.specs.Bytes.{byte_place}
use Rattle.cell.proofs.Stored.{top-none, top-more, small, grows}
use Rattle.cell.proofs.bytes.stored_at.Goals as goal

pub loop-i-init : goal.loop-i-init
loop-i-init c = let a = c in (top-none a.args.first a.args.at a.args.width a.args.s.now a.requires.1, omega arith)

pub overflow_mul-n : goal.overflow_mul-n
overflow_mul-n c =
    let l = c.loop-i in
    omega (arith, small l.i l.n l.invariant.1 (omega arith))

pub overflow_add-n : goal.overflow_add-n
overflow_add-n c =
    let l = c.loop-i in
    omega (arith, c.type_inv.s c.place-j.result, small l.i l.n l.invariant.1 (omega arith))

pub loop-i-preserved : goal.loop-i-preserved
loop-i-preserved c =
    let a = c in
    let l = c.loop-i in
    let t = a.args in (
      ap (λ (k : ℕ). l.n * 256 + get_or t.s.now k 0) c.place-j.ensures
          ∙ ap (λ (k : ℕ). k * 256 + get_or t.s.now (byte_place t.first t.at t.width l.i) 0) l.invariant.0
          ∙ sym (top-more t.first t.at t.width l.i t.s.now a.requires.1 c.loop-i-test.true),
      grows l.i l.n (get_or t.s.now c.place-j.result 0) l.invariant.1 (c.type_inv.s c.place-j.result).fits,
    )
