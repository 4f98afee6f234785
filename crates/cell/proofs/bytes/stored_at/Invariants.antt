-- `cell::bytes::stored_at` meets its contract. The loop's invariant: n is what the i most significant bytes make. Assumes nothing.
use mathlib.Core.Path.{◌≡◌}
use Prim.Native.Nat.{◌<◌, ◌^◌}
use lib.ListN.{take, drop}
use Rattle.cell.specs.Bytes.{number}
use Rattle.cell.proofs.Stored.{top}
use Rattle.cell.proofs.bytes.stored_at.Given as goal

abbrev pub invariant-loop-i : goal.invariant-loop-i
invariant-loop-i l =
    (l.n ≡ number (top l.first l.width l.i (take l.width (drop l.at l.s)))) × (l.n < 256 ^ l.i)
