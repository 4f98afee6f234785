-- What the one decision on data types says, by the ranges of codes that the code has; and no type has more than 4 bytes.
use Prim.Native.Nat.{ℕ, zero, suc, ◌<◌, ◌≤◌}
use mathlib.Core.Path.{◌≡◌, refl}
use mathlib.Core.Bool.{false}
use native.Mathlib.Omega.{arith}
use lib.Dec.{eqb}
use Rattle.cell.specs.declared.kind.Shape.{Shape}
use Rattle.cell.specs.Kind.{shapes, shape_of}

pub shape-byte : (k : ℕ) → 1 ≤ k → k ≤ 2 → ◌≡◌ {A = Shape} (record { bytes = 1; signed = eqb k 2; align = 1 }) (shape_of k)
unfolding shape_of shapes
shape-byte zero l h = absurd (omega arith)
shape-byte (suc zero) l h = refl
shape-byte (suc (suc zero)) l h = refl
shape-byte (suc (suc (suc k))) l h = absurd (omega arith)

pub shape-word : (k : ℕ) → 3 ≤ k → k ≤ 4 → ◌≡◌ {A = Shape} (record { bytes = 2; signed = eqb k 4; align = 2 }) (shape_of k)
unfolding shape_of shapes
shape-word (suc (suc (suc zero))) l h = refl
shape-word (suc (suc (suc (suc zero)))) l h = refl
shape-word (suc (suc (suc (suc (suc k))))) l h = absurd (omega arith)
shape-word (suc (suc zero)) l h = absurd (omega arith)
shape-word (suc zero) l h = absurd (omega arith)
shape-word zero l h = absurd (omega arith)

pub shape-long : (k : ℕ) → 5 ≤ k → k ≤ 6 → ◌≡◌ {A = Shape} (record { bytes = 4; signed = eqb k 6; align = 4 }) (shape_of k)
unfolding shape_of shapes
shape-long (suc (suc (suc (suc (suc zero))))) l h = refl
shape-long (suc (suc (suc (suc (suc (suc zero)))))) l h = refl
shape-long (suc (suc (suc (suc (suc (suc (suc k))))))) l h = absurd (omega arith)
shape-long (suc (suc (suc (suc zero)))) l h = absurd (omega arith)
shape-long (suc (suc (suc zero))) l h = absurd (omega arith)
shape-long (suc (suc zero)) l h = absurd (omega arith)
shape-long (suc zero) l h = absurd (omega arith)
shape-long zero l h = absurd (omega arith)

pub shape-above : (k : ℕ) → 6 < k → ◌≡◌ {A = Shape} (record { bytes = 0; signed = false; align = 1 }) (shape_of k)
unfolding shape_of shapes
shape-above (suc (suc (suc (suc (suc (suc (suc k))))))) h = refl
shape-above (suc (suc (suc (suc (suc (suc zero)))))) h = absurd (omega arith)
shape-above (suc (suc (suc (suc (suc zero))))) h = absurd (omega arith)
shape-above (suc (suc (suc (suc zero)))) h = absurd (omega arith)
shape-above (suc (suc (suc zero))) h = absurd (omega arith)
shape-above (suc (suc zero)) h = absurd (omega arith)
shape-above (suc zero) h = absurd (omega arith)
shape-above zero h = absurd (omega arith)

pub shape-none : (k : ℕ) → k < 1 → ◌≡◌ {A = Shape} (record { bytes = 0; signed = false; align = 1 }) (shape_of k)
unfolding shape_of shapes
shape-none zero h = refl
shape-none (suc k) h = absurd (omega arith)

-- at most 4 bytes
pub bytes_le : (k : ℕ) → (shape_of k).bytes ≤ 4
unfolding shape_of shapes
bytes_le zero = omega arith
bytes_le (suc zero) = omega arith
bytes_le (suc (suc zero)) = omega arith
bytes_le (suc (suc (suc zero))) = omega arith
bytes_le (suc (suc (suc (suc zero)))) = omega arith
bytes_le (suc (suc (suc (suc (suc zero))))) = omega arith
bytes_le (suc (suc (suc (suc (suc (suc zero)))))) = omega arith
bytes_le (suc (suc (suc (suc (suc (suc (suc k))))))) = omega arith

pub bytes-of : (k : ℕ) (t : Shape) → t ≡ shape_of k → t.bytes ≤ 4
bytes-of k t e = rw e (bytes_le k)
