-- A fraction in six places: its size. Its sign stands before it.
use Rattle.std.specs.Prelude.{ℕ, ◌*◌, ◌/◌, ◌%◌, ◌^◌, cond, ◌&&◌, ltb}
use Rattle.convert.specs.Round.{away, rounded}
use Rattle.places.specs.declared.six.Six.{Six}

-- "numbers rounded to six places, halves away from zero": n/d as so many millionths
unfoldable pub millionths_of : ℕ → ℕ → ℕ
millionths_of n d = rounded away (n * 1000000) d

-- so many millionths as a whole part and the millionths beside it
abbrev pub six_of : ℕ → Six
six_of k = record { whole = k / 1000000; millionths = k % 1000000 }

-- A divisor is above 0 and an i64: for any other, zeros.
unfoldable pub six_places : ℕ → ℕ → Six
six_places n d = cond (ltb 0 d && ltb d (2 ^ 63)) (six_of (millionths_of n d)) (six_of 0)
