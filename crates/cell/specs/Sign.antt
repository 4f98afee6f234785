-- "bytes 1, words 2, longs 4, signed in two's complement": stored numbers of w bytes with a sign or with none. Over any width.
use Rattle.std.specs.Prelude.{Bool, true, false, cond, ℕ, suc, ◌-◌, ◌/◌, ◌^◌, ltb, ℤ, pos, negsuc, ◌-ℤ◌}

-- The raw number that w bytes hold: the top half of a signed type's numbers stands for those below 0.
abbrev pub typed : Bool → ℕ → ℕ → ℤ
typed false w n = pos n
typed true w n = cond (ltb n (256 ^ w / 2)) (pos n) (pos n -ℤ pos (256 ^ w))

-- A raw number fits the type. (negsuc n is −n − 1.)
abbrev pub fits_type : Bool → ℕ → ℤ → Bool
fits_type false w (pos n) = ltb n (256 ^ w)
fits_type false w (negsuc n) = false
fits_type true w (pos n) = ltb n (256 ^ w / 2)
fits_type true w (negsuc n) = ltb n (256 ^ w / 2)

-- The stored number of a raw number.
abbrev pub bits_of : ℕ → ℤ → ℕ
bits_of w (pos n) = n
bits_of w (negsuc n) = 256 ^ w - suc n
