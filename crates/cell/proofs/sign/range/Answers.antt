-- `cell::sign::range` meets its contract: each of the five widths is computed.
use Rattle.std.proofs.Common.{ℕ, zero, suc, ◌*◌, ◌%◌, ◌^◌, ◌≡◌, ◌≤◌, refl, arith}
use Rattle.cell.proofs.sign.range.Goals as goal

each : (w : ℕ) → w ≤ 4 → 1 * 2 ^ (8 * w) % 18446744073709551616 ≡ 256 ^ w
each zero h = refl
each (suc zero) h = refl
each (suc (suc zero)) h = refl
each (suc (suc (suc zero))) h = refl
each (suc (suc (suc (suc zero)))) h = refl
each (suc (suc (suc (suc (suc w))))) h = absurd (omega (arith, h))

pub returns : goal.returns
returns c = each c.args.width c.requires
