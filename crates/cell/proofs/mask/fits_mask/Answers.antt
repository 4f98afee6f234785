-- `cell::mask::fits_mask` meets its contract. Assumes nothing.
use mathlib.Core.Path.{ap}
use Prim.Native.Nat.{ℕ, ◌<◌, ◌^◌}
use native.Mathlib.Omega.{arith}
use lib.Bits.{bit_and}
use lib.Dec.{eqb}
use Rattle.cell.specs.Mask.{lowest}
use Rattle.cell.proofs.Masks.{lowest-lt, shift-exact, too_large}
use Rattle.cell.proofs.mask.fits_mask.Goals as goal

low : (m : ℕ) → 0 < m → m < 2 ^ 64 → lowest m < 64
low m h f = lowest-lt m h f

pub overflow_cast-low : goal.overflow_cast-low
overflow_cast-low c = omega (arith, low c.args.mask c.requires c.ranges.mask.fits)

pub overflow_shr-mask : goal.overflow_shr-mask
overflow_shr-mask c = low c.args.mask c.requires c.ranges.mask.fits

pub returns-then-mask-low : goal.returns-then-mask-low
returns-then-mask-low c = too_large c.args.raw c.args.mask c.if-mask-low.true

pub overflow_cast-back : goal.overflow_cast-back
overflow_cast-back c = omega (arith, low c.args.mask c.requires c.ranges.mask.fits)

pub overflow_shl-back : goal.overflow_shl-back
overflow_shl-back c = low c.args.mask c.requires c.ranges.mask.fits

pub returns : goal.returns
returns c =
    let t = c.args in
    ap (λ (n : ℕ). eqb (bit_and n t.mask) n) (shift-exact t.raw t.mask c.if-mask-low.false c.ranges.mask.fits)
