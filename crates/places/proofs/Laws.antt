-- THE LAW of six places, about the definition that the contract names.
use Prim.Native.Nat.{ℕ, ◌+◌, ◌*◌, ◌<◌, ◌≤◌}
use Rattle.convert.specs.Round.{away}
use Rattle.convert.proofs.Rounds.{size-half}
use Rattle.places.specs.Six.{millionths_of}

-- THE ROUNDED NUMBER is the nearest: within half a millionth of the fraction, on either side.
pub six-near : (n d : ℕ) → 0 < d → (2 * (millionths_of n d * d) ≤ 2 * (n * 1000000) + d) × (2 * (n * 1000000) ≤ 2 * (millionths_of n d * d) + d)
unfolding millionths_of
six-near n d p = size-half away (n * 1000000) d p
