-- `readings::put_reading` meets its contract. Assumes nothing.
use mathlib.Core.Path.{◌≡◌, ◌∙◌}
use Prim.Native.Nat.{ℕ, ◌<◌, ◌^◌}
use native.Mathlib.Omega.{arith}
use lib.IntN.{pos}
use mir.Syntax.{w64}
use mir.Val.{to_z, of_z}
use mir.Facts.{to_z-of_z}
use Rattle.cell.proofs.Signed.{is-cast, returned}
use Rattle.numbers.proofs.ReadingLaws.{five-put, one-put}
use borrow.Author.Rules.{rules}
use Rattle.readings.proofs.put_reading.Goals as goal

-- a state is a byte
state-cast : (n : ℕ) → n < 2 ^ 8 → to_z w64 n ≡ pos n
state-cast n h = (is-cast n (omega arith)).same

pub returns : goal.returns
returns c =
    let a = c.args in
    let k = c.shown_kind in
    -- what the machine reads back of a number is the number
    let first : to_z w64 (of_z w64 a.p.first) ≡ a.p.first = search rules in
    let second : to_z w64 (of_z w64 a.p.second) ≡ a.p.second = search rules in (
      five-put a.out.now _ _ _ _ _ _ _ _ _ _ a.raw a.p a.s c.put.ensures (to_z-of_z c.ranges.raw) c.put-2.ensures (state-cast a.p.state (omega arith)) c.put-3.ensures first c.put-4.ensures second c.put-5.ensures (returned k.result k.type_inv ∙ k.ensures),
      one-put a.shown.now _ _ a.s c.put-6.ensures c.shown_number.ensures,
    )
