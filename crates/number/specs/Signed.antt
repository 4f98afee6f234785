-- Whole numbers with a sign.
use Rattle.std.specs.Prelude.{ℕ, ◌-◌, ◌^◌, Bool, true, false, ℤ, pos, neg_ℤ}

-- The number of a size, below zero where it has a minus.
abbrev pub signed_of : Bool → ℕ → ℤ
signed_of true n = neg_ℤ (pos n)
signed_of false n = pos n

-- The greatest size that an i64 has, with a minus and without.
abbrev pub most_signed : Bool → ℕ
most_signed true = 2 ^ 63
most_signed false = 2 ^ 63 - 1
