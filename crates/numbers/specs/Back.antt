-- How a C caller reads an answer out of its number.
use Rattle.std.specs.Prelude.{ℕ, zero, suc, ◌/◌, ◌%◌, ◌^◌, ◌<◌, cond, eqb, ℤ, pos, negsuc}
use Rattle.text.specs.Answer as placed
use Rattle.number.specs.Answer.{Answer, given, refused}

-- a load: 0, or the number is what is over by 64, and the place how often 64 goes in
abbrev pub load_back : ℕ → placed.Answer (Unit {0})
load_back k = cond (eqb k 0) (placed.given tt) (placed.refused (k % 64) (k / 64))

-- a refusal that the number tells in full: "number 1 to 13, 20 or 33", and a place in the description
abbrev pub Tellable : placed.Answer (Unit {0}) → Type 0
Tellable (placed.given a) = Unit {0}
Tellable (placed.refused n p) = (0 < n) × (n < 64) × (p < 2 ^ 32)

-- a search: an object's number (told as one more), -1 for none (told as 0), a refusal's number below zero
abbrev pub find_back : ℤ → Answer ℕ
find_back (pos i) = given (suc i)
find_back (negsuc zero) = given 0
find_back (negsuc (suc n)) = refused (suc (suc n))

-- an answer without what it gives
abbrev pub done_of : {A : Type 0} → Answer A → Answer (Unit {0})
done_of (given a) = given tt
done_of (refused n) = refused n

-- a read, or a call on the list: 0, or the refusal's number
abbrev pub call_back : ℕ → Answer (Unit {0})
call_back zero = given tt
call_back (suc n) = refused (suc n)

-- a listing: how many bytes, or the refusal's number below zero
abbrev pub listing_back : ℤ → Answer ℕ
listing_back (pos n) = given n
listing_back (negsuc n) = refused (suc n)
