-- `cell::sign::value_of` meets its contract. Assumes nothing.
use mathlib.Core.Path.{◌≡◌, ap, ◌∙◌}
use Prim.Native.Nat.{ℕ, ◌≤◌, ◌<◌, ◌/◌, ◌^◌}
use native.Mathlib.Omega.{arith}
use borrow.Author.Tests.{lt-ltb, le-ltb}
use lib.IntN.{pos}
use mir.Syntax.{w64}
use mir.Val.{to_z}
use Rattle.cell.proofs.Signed.{Is, is-fits, is-back, is-sub, is-cast-le}
use Rattle.cell.proofs.Types.{power_le}
use Rattle.cell.proofs.sign.value_of.Goals as goal

x-is : (n : ℕ) → n < 2 ^ 32 → Is (to_z w64 n) (pos n) 4294967296
x-is n h = is-cast-le n (omega arith) tt

r-is : (w r : ℕ) → w ≤ 4 → r ≡ 256 ^ w → Is (to_z w64 r) (pos (256 ^ w)) 4294967296
r-is w r h e =
    let i = is-cast-le (256 ^ w) (power_le w h) tt in
    record { same = ap (to_z w64) e ∙ i.same; size = i.size }

pub returns-then-n-r : goal.returns-then-n-r
returns-then-n-r c =
    let a = c in
    let l : a.args.n < 256 ^ a.args.width / 2 = omega (arith, c.range-r.ensures) in
    (x-is a.args.n (omega arith)).same ∙ rw (c.if-signed.true, lt-ltb a.args.n (256 ^ a.args.width / 2) l)

pub overflow_sub-result : goal.overflow_sub-result
overflow_sub-result c = is-fits (is-sub (x-is c.args.n (omega arith)) (r-is c.args.width c.range-r.result c.requires c.range-r.ensures)) tt

pub returns-then-signed : goal.returns-then-signed
returns-then-signed c =
    let a = c in
    let l : 256 ^ a.args.width / 2 ≤ a.args.n = omega (arith, c.range-r.ensures) in
    (is-back (is-sub (x-is a.args.n (omega arith)) (r-is c.args.width c.range-r.result c.requires c.range-r.ensures)) tt).same ∙ rw (c.if-signed.true, le-ltb a.args.n (256 ^ a.args.width / 2) l)

pub returns : goal.returns
returns c = (x-is c.args.n (omega arith)).same ∙ rw c.if-signed.false
